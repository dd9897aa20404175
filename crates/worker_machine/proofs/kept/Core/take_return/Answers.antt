use Rattle.turn_model.specs.Points as point
use Rattle.std.proofs.Common.{◌+◌, refl, sym, ap, ◌∙◌, cond, lt-ltb, le-ltb, arith}
use Rattle.worker_machine.proofs.TakenNotices.{took-returns}
use Rattle.worker_machine.proofs.Moving.{quiet-by, rest-kept}
use Rattle.worker_machine.proofs.Calls.{place-by}
use Rattle.worker_machine.proofs.Joining.{returned-slots}
use Rattle.stride_set.specs.Strides.{Strides, strides_of}
use Rattle.worker_machine.proofs.kept.Core.take_return.Goals as goal

pub invariant_of-self : goal.invariant_of-self
invariant_of-self g c =
    let old = g.S.Station.seen c.args.station.now in
    let f = c.requires.follows in
    record {
      is_one = c.args.self.now.is_one;
      few_workers = c.args.self.now.few_workers;
      few_slots = c.args.self.now.few_slots;
      passes = ap (λ (x : Strides). x.slots) c.join_all.ensures
          ∙ returned-slots 64 c.args.part c.take_return-bits.result (strides_of c.args.self.now.strides) ∙ c.args.self.now.passes;
      each_known = c.args.self.now.each_known;
      room = c.args.self.now.room;
      sized = c.args.self.now.sized;
    }

pub returns-then-part-lt-PARTS-clause-hand : goal.returns-then-part-lt-PARTS-clause-hand
returns-then-part-lt-PARTS-clause-hand g c =
    let old = g.S.Station.seen c.args.station.now in
    let f = c.requires.follows in
    (place-by c.take_return-bits.ensures.made f.hand.0, c.if-part-lt-PARTS.true)

pub returns-else-part-lt-PARTS-clause-hand : goal.returns-else-part-lt-PARTS-clause-hand
returns-else-part-lt-PARTS-clause-hand g c =
    let old = g.S.Station.seen c.args.station.now in
    let f = c.requires.follows in
    (place-by c.take_return-bits.ensures.made f.hand.0, omega arith)

pub returns-then-part-lt-PARTS-clause-moves : goal.returns-then-part-lt-PARTS-clause-moves
returns-then-part-lt-PARTS-clause-moves g c =
    quiet-by c.take_return-bits.ensures.made (λ ms. (refl, refl, refl)) (refl, refl, refl) refl (λ ms h. (
      refl,
      took-returns c.args.part c.take_return-bits.result ms h.knows refl c.join_all.ensures (rest-kept refl refl refl refl refl) refl,
      sym (ap (λ b. cond b (point.Return (c.args.part + 1)) (point.Change 0)) (lt-ltb _ _ c.if-part-lt-PARTS.true)),
    ))

pub returns-then-part-lt-PARTS-clause-begins : goal.returns-then-part-lt-PARTS-clause-begins
returns-then-part-lt-PARTS-clause-begins g c first turn =
    quiet-by c.take_return-bits.ensures.made (λ ms. (refl, refl, refl)) (refl, refl, refl) refl (λ ms h. (
      first,
      took-returns c.args.part c.take_return-bits.result ms h.knows refl c.join_all.ensures (rest-kept refl refl refl refl refl) refl,
      ap (λ k. point.Return (k + 1)) first,
    ))

pub returns-else-part-lt-PARTS-clause-moves : goal.returns-else-part-lt-PARTS-clause-moves
returns-else-part-lt-PARTS-clause-moves g c =
    quiet-by c.take_return-bits.ensures.made (λ ms. (refl, refl, refl)) (refl, refl, refl) refl (λ ms h. (
      refl,
      took-returns c.args.part c.take_return-bits.result ms h.knows refl c.join_all.ensures (rest-kept refl refl refl refl refl) refl,
      sym (ap (λ b. cond b (point.Return (c.args.part + 1)) (point.Change 0)) (le-ltb _ _ c.if-part-lt-PARTS.false)),
    ))

pub returns-else-part-lt-PARTS-clause-begins : goal.returns-else-part-lt-PARTS-clause-begins
returns-else-part-lt-PARTS-clause-begins g c first turn = absurd (omega (arith, first, c.if-part-lt-PARTS.false))
