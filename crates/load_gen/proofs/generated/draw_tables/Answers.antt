use Rattle.std.proofs.Common.{◌≡◌, ◌∙◌, ap, refl, Result, Ok, Err}
use Rattle.std.specs.Prelude.{OnOk}
use Rattle.load_gen.specs.Draws.{state_after}
use Rattle.load_gen.proofs.DrawsLemmas.{state_after-at}
use Rattle.load_gen.proofs.generated.draw_tables.Goals as goal

-- what holds whatever a call gives holds where it gives a value
whenever_ok : {A E : Type 0} (P : Type 0) (result : Result A E) → P → OnOk result P
whenever_ok P (Ok a) h = h
whenever_ok P (Err e) h = tt

pub returns-clause-draws : goal.returns-clause-draws
returns-clause-draws c =
    whenever_ok (c.draw_u.new.draws ≡ state_after c.args.draws.now 601000) c.tables_of.result (
    c.in_ok-u.ensures.draws ∙ ap (λ state. state_after state 1000) c.in_ok-t.ensures.draws ∙ state_after-at c.args.draws.now 600000 1000 601000 refl)
