use Rattle.std.proofs.Common.{◌*◌, sym, subst, replicate, None}
use Rattle.atomic_table.specs.Table.{opening}
use Rattle.board_rule.specs.Rule.{RunningRule, terms_of}
use Rattle.board_rule.specs.Views.{fresh_view}
use Rattle.board_rule.proofs.Opens.{opens}
use Rattle.board_rule.proofs.life.make_with.Goals as goal

pub vacant-requires : goal.vacant-requires
vacant-requires g c =
    let d = c.args.shape in
    let terms = terms_of g.B.Fits.total g.B.Fits.fits (record { shape = d; subject = c.args.subject }) in
    subst (λ ws. RunningRule terms (opening ws (replicate (d.slots * d.workers) None) (fresh_view d c.args.subject.value 0 d.workers)))
    (sym c.as_slice.ensures.value) (opens terms c.in_ok-words.words.items (d.slots * d.workers) c.requires c.in_ok-words.ensures)
