use Rattle.std.proofs.Common.{◌<◌, length, refl, ap, ◌∙◌, arith}
use Rattle.worker_machine.proofs.Sizes.{sized-set, range-sized}
use Rattle.std.specs.Arc.{arc_value}
use Rattle.std.proofs.lemmas.Option.{slice_get_read}
use Rattle.std.proofs.lemmas.List.{length-set}
use Rattle.stride_set.specs.Strides.{Strides}
use Rattle.std.proofs.Common.{sym, subst}
use Rattle.worker_machine.specs.Knowing.{IsPriorityOf}
use Rattle.worker_machine.specs.declared.kept.Known.{Known}
use Rattle.slot_station.proofs.Lists.{get-set_same}
use Rattle.worker_machine.proofs.VisitMoves.{some-is, spent-known}
use Rattle.worker_machine.proofs.kept.Core.worked.Goals as goal

pub invariant_of-self : goal.invariant_of-self
invariant_of-self c =
    let low : c.args.s < length c.args.self.now.known.items = omega (arith, c.requires.chosen.in_range, c.args.self.now.passes, c.args.self.now.each_known) in
    let got = slice_get_read c.args.self.now.known.items
    (length c.args.self.now.known.items) c.args.s c.index_mut-known.result.now refl low c.index_mut-known.ensures.value in
    record {
      is_one = c.args.self.now.is_one;
      few_workers = c.args.self.now.few_workers;
      few_slots = c.args.self.now.few_slots;
      passes = ap (λ (x : Strides). x.slots) c.advance.ensures ∙ c.args.self.now.passes;
      each_known = length-set c.args.self.now.known.items c.args.s c.spend.new.known ∙ c.args.self.now.each_known;
      room = c.args.self.now.room;
      sized = sized-set (arc_value c.args.self.now.plan) c.args.self.now.known.items c.args.s c.spend.new.known low c.args.self.now.sized
          (range-sized (arc_value c.args.self.now.plan) c.index_mut-known.result.now c.spend.new.known c.args.id c.args.to
          (c.requires.sizer _ got) c.spend.ensures.id c.spend.ensures.last_end c.requires.within);
    }

pub returns-clause-worked : goal.returns-clause-worked
returns-clause-worked c =
    let self = c.args.self.now in
    let low : c.args.s < length self.known.items = omega (arith, c.requires.chosen.in_range, self.passes, self.each_known) in
    let known = c.index_mut-known.result.now in
    let got = slice_get_read self.known.items (length self.known.items) c.args.s known refl low c.index_mut-known.ensures.value in
    let x = c.spend.ensures in (
      c.priority-priority.result,
      record {
        priority = λ k at. let is = some-is known k (sym got ∙ at) in
            subst (λ (n : Known). IsPriorityOf n c.priority-priority.result) is (λ total spent. c.priority-priority.ensures.total total spent);
        strides = c.advance.ensures;
        known = spent-known self.known.items known c.spend.new.known
            (record {
              slot = c.args.s;
              from = c.args.from;
              to = c.args.to;
              time = c.args.ns;
              priority = c.priority-priority.result;
            }) low got x.group x.query x.id x.decay x.sizer x.last_end;
        times = c.note.ensures;
        finished = refl;
        arrived = refl;
      },
    )

pub returns-clause-counted : goal.returns-clause-counted
returns-clause-counted c =
    let self = c.args.self.now in
    let low : c.args.s < length self.known.items = omega (arith, c.requires.chosen.in_range, self.passes, self.each_known) in (
      c.priority.result,
      λ k at.
          subst (λ (n : Known). IsPriorityOf n c.priority.result) (some-is c.spend.new.known k (sym
          (get-set_same self.known.items c.args.s c.spend.new.known low) ∙ at))
          (λ total spent. c.priority.ensures.total total spent),
      record {
        room = c.count_range.ensures.room;
        counts = c.count_range.ensures.counted;
      },
    )
