use Rattle.std.proofs.Common.{◌≡◌, ◌++◌, length, take, arith}
use Rattle.std.proofs.lemmas.Grind.{common_steps}
use Rattle.std.proofs.lemmas.Option.{IfSome_then}
use Rattle.outside_io.specs.Pieces.{AppendsPiece, IsPiece}
use Rattle.outside_io.proofs.PiecesLemmas.{StartsWith-piece}
use Rattle.outside_io.proofs.reading.take_piece.Goals as goal

pub returns-clause-appended : goal.returns-clause-appended
returns-clause-appended g c =
    let old = c.args.taken.now in
    let count = c.in_ok-count.count in
    let buf = c.read_piece.new.buf in
    let items : c.extend_from_slice.new.self.items ≡ old.items ++ take count buf = grind (arith, common_steps) in
    let follows : c.len.result ≡ length old.items = omega (arith, old.ok.0) in
    IfSome_then _ {P = λ file. IsPiece file c.len.result buf count}
    {Q = λ file. AppendsPiece file old.items c.extend_from_slice.new.self.items}
    c.in_ok-count.ensures.piece
    (λ file piece before. rw items (StartsWith-piece file old.items buf _ count follows piece before))
