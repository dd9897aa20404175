use Rattle.std.proofs.Common.{◌<◌, length, refl, sym, ◌∙◌, subst, arith}
use Rattle.slot_station.specs.Desks.{Desk}
use Rattle.bench_cell.specs.declared.plan.Plan.{Plan}
use Rattle.worker_machine.proofs.Calls.{place-by, carry}
use Rattle.worker_machine.proofs.Desks.{is-one, slots-of}
use Rattle.worker_machine.proofs.Sizes.{sized-set, one-set}
use Rattle.worker_machine.proofs.Visits.{own-looked}
use Rattle.std.specs.Arc.{arc_value}
use Rattle.std.proofs.lemmas.Option.{slice_get_read}
use Rattle.std.proofs.lemmas.List.{length-set}
use Rattle.worker_machine.specs.Plans.{IsTask}
use Rattle.worker_machine.specs.Sized.{IsSized}
use Rattle.std.proofs.Common.{true, false, ap, cond}
use Rattle.slot_history.specs.States.{slot_of}
use Rattle.turn_model.specs.Points as point
use Rattle.worker_machine.specs.Keeps.{kept_of}
use Rattle.worker_machine.proofs.Desks.{plan-of, workers-of}
use Rattle.worker_machine.proofs.Moving.{quiet-by, place-made, rest-kept}
use Rattle.worker_machine.proofs.VisitMoves.{drop-knows, known-at, let-in-slots, lets-by, look-strides, settled-by, shut-knows, shut-out}
use Rattle.worker_machine.specs.Loads.{model_desk}
use Rattle.worker_machine.proofs.kept.Core.look.Goals as goal

pub invariant_of-self : goal.invariant_of-self
invariant_of-self g c =
    let f = c.requires.follows in
    let low : c.args.s < length c.args.self.now.known.items = let e = slots-of c.args.self.now f.desk in omega
    (arith, e, f.hand.1, c.args.self.now.each_known) in
    record {
      is_one = c.args.self.now.is_one;
      few_workers = c.args.self.now.few_workers;
      few_slots = c.args.self.now.few_slots;
      passes = c.args.self.now.passes;
      each_known = length-set c.args.self.now.known.items c.args.s c.settle.new.known ∙ c.args.self.now.each_known;
      room = c.args.self.now.room;
      sized = sized-set (arc_value c.args.self.now.plan) c.args.self.now.known.items c.args.s c.settle.new.known low c.args.self.now.sized
          (subst (λ p. IsSized p c.settle.new.known) c.deref.ensures
          (c.settle.ensures.sized (subst (λ p. IsSized p c.index_mut.result.now) (sym c.deref.ensures)
          (c.args.self.now.sized c.args.s _ (slice_get_read c.args.self.now.known.items
          (length c.args.self.now.known.items) c.args.s c.index_mut.result.now refl low c.index_mut.ensures.value)))));
    }

pub returns-then-allows-clause-hand : goal.returns-then-allows-clause-hand
returns-then-allows-clause-hand g c =
    let f = c.requires.follows in
    let m = c.in-Open.ensures.made in (
      place-by m f.hand.0,
      carry m (λ (D : Desk Plan). c.args.s < D.shape.slots) f.hand.1,
      own-looked m (is-one c.args.self.now f.desk),
      carry m
          (λ (D : Desk Plan). IsTask D.subject c.in-Open.id) c.in-Open.ensures.task_set,
    )

pub returns-then-allows-clause-fits : goal.returns-then-allows-clause-fits
returns-then-allows-clause-fits g c =
    let f = c.requires.follows in
    let low : c.args.s < length c.args.self.now.known.items = let e = slots-of c.args.self.now f.desk in omega
    (arith, e, f.hand.1, c.args.self.now.each_known) in
    (f.fits, λ k got. one-set c.args.self.now.known.items c.args.s c.settle.new.known k c.in-Open.id low c.settle.ensures.id got)

pub returns-then-allows-clause-moves : goal.returns-then-allows-clause-moves
returns-then-allows-clause-moves g c =
    let old = g.S.Station.seen c.args.station.now in
    let f = c.requires.follows in
    let self = c.args.self.now in
    let low : c.args.s < length self.known.items = let e = slots-of self f.desk in omega (arith, e, f.hand.1, self.each_known) in
    let known = c.index_mut.result.now in
    let got = slice_get_read self.known.items (length self.known.items) c.args.s known refl low c.index_mut.ensures.value in
    let x = c.settle.ensures in
    quiet-by c.in-Open.ensures.made (λ ms. (refl, refl, refl)) (refl, refl, refl) refl (λ ms h.
    let lets = lets-by (model_desk old.desk) ms c.in-Open.id c.args.s _ (kept_of known) (place-made old ms h) (ap slot_of f.hand.0)
    (h.knows.slots c.args.s known got)
    ∙ sym (c.allows.ensures known got) ∙ c.if-allows.true in (
      tt,
      record {
        strides = h.knows.strides ∙ sym (look-strides (model_desk old.desk) ms c.in-Open.id true lets);
        finished = h.knows.finished;
        arrived = h.knows.arrived;
        times = h.knows.times;
        slots = let-in-slots c.in-Open.ensures.made ms h f.hand.0 lets known c.settle.new.known low got
            (settled-by old.desk _ _ c.in-Open.id known c.settle.new.known (c.deref.ensures ∙ plan-of self f.desk) (workers-of self f.desk)
            x.group x.query x.id x.kept_decay x.fresh_decay x.kept_sizer x.fresh_sizer);
      },
      sym (ap (λ b. cond b point.Take point.Early) lets),
    ))

pub returns-else-allows-clause-moves : goal.returns-else-allows-clause-moves
returns-else-allows-clause-moves g c =
    let old = g.S.Station.seen c.args.station.now in
    let f = c.requires.follows in
    let self = c.args.self.now in
    let at = known-at self.known.items c.args.s (let e = slots-of self f.desk in omega (arith, e, f.hand.1, self.each_known)) in
    quiet-by c.in-Open.ensures.made (λ ms. (refl, refl, refl)) (refl, refl, refl) refl (λ ms h.
    let lets = lets-by (model_desk old.desk) ms c.in-Open.id c.args.s _ (kept_of at.0) (place-made old ms h) (ap slot_of f.hand.0)
    (h.knows.slots c.args.s at.0 at.1)
    ∙ sym (c.allows.ensures at.0 at.1) ∙ c.if-allows.false in (
      tt,
      drop-knows old ms h (ap slot_of f.hand.0) h.knows.strides (shut-out (model_desk old.desk) ms c.in-Open.id lets)
          (sym (look-strides (model_desk old.desk) ms c.in-Open.id false lets)) (rest-kept refl refl refl refl refl) c.drop_slot.ensures,
      sym (ap (λ b. cond b point.Take point.Early) lets),
    ))

pub returns-in-Invalid-clause-moves : goal.returns-in-Invalid-clause-moves
returns-in-Invalid-clause-moves g c =
    quiet-by c.in-Invalid.ensures.made (λ ms. (refl, refl, refl)) (refl, refl, refl) refl
    (λ ms h. (
      tt,
      shut-knows (g.S.Station.seen c.args.station.now) ms h (ap slot_of c.requires.follows.hand.0) h.knows.strides refl
          (rest-kept refl refl refl refl refl) c.drop_slot-in-Invalid.ensures,
      refl,
    ))

pub returns-in-Vacant-clause-moves : goal.returns-in-Vacant-clause-moves
returns-in-Vacant-clause-moves g c =
    quiet-by c.in-Vacant.ensures.made (λ ms. (refl, refl, refl)) (refl, refl, refl) refl
    (λ ms h. (
      tt,
      shut-knows (g.S.Station.seen c.args.station.now) ms h (ap slot_of c.requires.follows.hand.0) h.knows.strides refl
          (rest-kept refl refl refl refl refl) c.drop_slot-in-Vacant.ensures,
      refl,
    ))
