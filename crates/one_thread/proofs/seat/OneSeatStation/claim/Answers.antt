use Rattle.slot_station.specs.Tokens.{ClaimGives}
use Rattle.slot_station.proofs.Follows.{range-cut, range-past}
use Rattle.slot_history.specs.Calls.{Claiming}
use Rattle.one_thread.proofs.Seated.{seat, may-make, claims, keeps, brought, makes}
use Rattle.one_thread.proofs.seat.OneSeatStation.claim.Goals as goal

pub invariant_of-table : goal.invariant_of-table
invariant_of-table g c = keeps (seat c.args.self.now c.table.inside c.table.view_is c.table.invariant) c.claim.ensures.made (claims c.args.n c.claim.result)

pub returns-clause-made : goal.returns-clause-made
returns-clause-made g c = makes (seat c.args.self.now c.table.inside c.table.view_is c.table.invariant) c.claim.ensures.made (claims c.args.n c.claim.result)

pub claim-requires : goal.claim-requires
claim-requires g c = may-make (seat c.args.self.now c.table.inside c.table.view_is c.table.invariant) (Claiming c.args.n)
    (let (s, id, at) = c.requires.place in (s, id, at, c.requires.number.0, c.requires.number.1))

pub returns-clause-spent : goal.returns-clause-spent
returns-clause-spent g c = brought (seat c.args.self.now c.table.inside c.table.view_is c.table.invariant) c.claim.ensures.made
    (λ d p. ClaimGives d c.args.self.now.worker p c.claim.result) c.claim.ensures.spent

pub returns-clause-range : goal.returns-clause-range
returns-clause-range g c = range-cut c.args.n c.claim.result (returns-clause-made g c)

pub returns-clause-past : goal.returns-clause-past
returns-clause-past g c = range-past c.args.n c.claim.result (returns-clause-made g c) c.requires.place
