use Rattle.std.proofs.Common.{refl}
use Rattle.board_rule.specs.Operations.{changed, read_by}
use Rattle.board_rule.proofs.Stepping.{owes, small, seat-after, made}
use Rattle.board_rule.proofs.Callers.{pass-counted}
use Rattle.board_rule.proofs.atomic.make_step.Goals as goal

pub operate-requires : goal.operate-requires
operate-requires g c =
    let p = c.args.pass.now in
    let o = owes c.args.board.now p.worker p.place p.seat c.requires.pass g.B.Fits.total g.B.Fits.fits g.K.NamesCall.call c.requires.call c.args.address
    c.requires.on c.index-word.result c.index-word.ensures (changed c.args.operation) c.requires.change (read_by c.args.operation) c.requires.answer in
    record { table = o.0; words = o.1; allowed = o.2 }

pub returns-clause-small : goal.returns-clause-small
returns-clause-small g c =
    let p = c.args.pass.now in
    small c.args.board.now p.worker p.place p.seat c.requires.pass g.B.Fits.total g.K.NamesCall.call c.operate.result c.operate.new.seat.me
    c.operate.ensures.called

pub returns-clause-counted : goal.returns-clause-counted
returns-clause-counted g c = pass-counted c.args.board.now c.args.pass.now c.requires.pass

pub returns-clause-stepped : goal.returns-clause-stepped
returns-clause-stepped g c =
    let p = c.args.pass.now in
    record {
      worker = refl;
      place = refl;
      seat = seat-after c.args.board.now p.worker p.place p.seat c.requires.pass g.B.Fits.total g.K.NamesCall.call c.operate.result c.operate.new.seat.me
          c.operate.ensures.called c.operate.new.seat c.operate.ensures.table refl;
    }

pub returns-clause-made : goal.returns-clause-made
returns-clause-made g c =
    let p = c.args.pass.now in
    made c.args.board.now p.worker p.place p.seat c.requires.pass g.B.Fits.total g.K.NamesCall.call c.operate.result c.operate.new.seat.me
    c.operate.ensures.called c.operate.new.seat refl
