use Rattle.std.proofs.Common.{refl}
use Rattle.worker_machine.proofs.Turning.{moves-any}
use Rattle.worker_machine.proofs.kept.Core.go.Goals as goal

pub returns-in-Ready-clause-moves : goal.returns-in-Ready-clause-moves
returns-in-Ready-clause-moves g c = rw c.in-Ready.is (moves-any (c.take_return.ensures.begins refl c.in-Ready.field-0))

pub returns-in-Return-clause-moves : goal.returns-in-Return-clause-moves
returns-in-Return-clause-moves g c = rw c.in-Return.is (moves-any c.take_return-in-Return.ensures.moves)

pub returns-in-Change-clause-moves : goal.returns-in-Change-clause-moves
returns-in-Change-clause-moves g c = rw c.in-Change.is (moves-any c.take_change.ensures.moves)

pub returns-in-Count-clause-moves : goal.returns-in-Count-clause-moves
returns-in-Count-clause-moves g c = rw c.in-Count.is (moves-any c.count.ensures.moves)

pub returns-in-Arrive-clause-moves : goal.returns-in-Arrive-clause-moves
returns-in-Arrive-clause-moves g c = rw c.in-Arrive.is (moves-any c.arrive.ensures.moves)

pub returns-in-Scan-clause-moves : goal.returns-in-Scan-clause-moves
returns-in-Scan-clause-moves g c = rw c.in-Scan.is (moves-any c.scan.ensures.moves)

pub returns-in-Admit-clause-moves : goal.returns-in-Admit-clause-moves
returns-in-Admit-clause-moves g c = rw c.in-Admit.is (moves-any c.admit.ensures.moves)

pub returns-in-Put-clause-moves : goal.returns-in-Put-clause-moves
returns-in-Put-clause-moves g c = rw c.in-Put.is (moves-any c.put.ensures.moves)

pub returns-in-Size-clause-moves : goal.returns-in-Size-clause-moves
returns-in-Size-clause-moves g c = rw c.in-Size.is (moves-any c.size.ensures.moves)

pub returns-in-Install-clause-moves : goal.returns-in-Install-clause-moves
returns-in-Install-clause-moves g c = rw c.in-Install.is (moves-any c.install.ensures.moves)

pub returns-in-Tell-clause-moves : goal.returns-in-Tell-clause-moves
returns-in-Tell-clause-moves g c = rw c.in-Tell.is (moves-any c.tell.ensures.moves)

pub returns-in-Give-clause-moves : goal.returns-in-Give-clause-moves
returns-in-Give-clause-moves g c = rw c.in-Give.is (moves-any c.give.ensures.moves)

pub returns-in-FreeIt-clause-moves : goal.returns-in-FreeIt-clause-moves
returns-in-FreeIt-clause-moves g c = rw c.in-FreeIt.is (moves-any c.free_it.ensures.moves)

pub returns-in-Enter-clause-moves : goal.returns-in-Enter-clause-moves
returns-in-Enter-clause-moves g c = rw c.in-Enter.is (moves-any c.enter.ensures.moves)

pub returns-in-Look-clause-moves : goal.returns-in-Look-clause-moves
returns-in-Look-clause-moves g c = rw c.in-Look.is (moves-any c.look.ensures.moves)

pub returns-in-Early-clause-moves : goal.returns-in-Early-clause-moves
returns-in-Early-clause-moves g c = rw c.in-Early.is (moves-any c.early.ensures.moves)

pub returns-in-Take-clause-moves : goal.returns-in-Take-clause-moves
returns-in-Take-clause-moves g c = rw c.in-Take.is (moves-any c.take.ensures.moves)

pub returns-in-Shut-clause-moves : goal.returns-in-Shut-clause-moves
returns-in-Shut-clause-moves g c = rw c.in-Shut.is (moves-any c.shut.ensures.moves)

pub returns-in-Back-clause-moves : goal.returns-in-Back-clause-moves
returns-in-Back-clause-moves g c = rw c.in-Back.is (moves-any c.back.ensures.moves)

pub returns-in-Leave-clause-moves : goal.returns-in-Leave-clause-moves
returns-in-Leave-clause-moves g c = rw c.in-Leave.is (moves-any c.leave.ensures.moves)

pub returns-in-Ask-clause-moves : goal.returns-in-Ask-clause-moves
returns-in-Ask-clause-moves g c = rw c.in-Ask.is (moves-any c.ask.ensures.moves)

pub returns-in-Sweep-clause-moves : goal.returns-in-Sweep-clause-moves
returns-in-Sweep-clause-moves g c = rw c.in-Sweep.is (moves-any c.sweep.ensures.moves)

pub returns-in-Pay-clause-moves : goal.returns-in-Pay-clause-moves
returns-in-Pay-clause-moves g c = rw c.in-Pay.is (moves-any c.pay.ensures.moves)

pub returns-in-Fetch-clause-moves : goal.returns-in-Fetch-clause-moves
returns-in-Fetch-clause-moves g c = rw c.in-Fetch.is (moves-any c.fetch.ensures.moves)

pub returns-in-Note-clause-moves : goal.returns-in-Note-clause-moves
returns-in-Note-clause-moves g c = rw c.in-Note.is (moves-any c.note.ensures.moves)

pub returns-in-Claim-clause-moves : goal.returns-in-Claim-clause-moves
returns-in-Claim-clause-moves g c = rw c.in-Claim.is c.claim.ensures.moves

pub returns-in-Ready-clause-hand : goal.returns-in-Ready-clause-hand
returns-in-Ready-clause-hand g c = c.take_return.ensures.hand

pub returns-in-Ready-clause-fits : goal.returns-in-Ready-clause-fits
returns-in-Ready-clause-fits g c = c.take_return.ensures.fits

pub returns-in-Ready-clause-same : goal.returns-in-Ready-clause-same
returns-in-Ready-clause-same g c = c.take_return.ensures.same

pub returns-in-Ready-clause-stays : goal.returns-in-Ready-clause-stays
returns-in-Ready-clause-stays g c = c.take_return.ensures.stays

pub returns-in-Ready-clause-ticks : goal.returns-in-Ready-clause-ticks
returns-in-Ready-clause-ticks g c = c.take_return.ensures.ticks

pub returns-in-Return-clause-hand : goal.returns-in-Return-clause-hand
returns-in-Return-clause-hand g c = c.take_return-in-Return.ensures.hand

pub returns-in-Return-clause-fits : goal.returns-in-Return-clause-fits
returns-in-Return-clause-fits g c = c.take_return-in-Return.ensures.fits

pub returns-in-Return-clause-same : goal.returns-in-Return-clause-same
returns-in-Return-clause-same g c = c.take_return-in-Return.ensures.same

pub returns-in-Return-clause-stays : goal.returns-in-Return-clause-stays
returns-in-Return-clause-stays g c = c.take_return-in-Return.ensures.stays

pub returns-in-Return-clause-ticks : goal.returns-in-Return-clause-ticks
returns-in-Return-clause-ticks g c = c.take_return-in-Return.ensures.ticks

pub returns-in-Return-clause-nearer : goal.returns-in-Return-clause-nearer
returns-in-Return-clause-nearer g c = rw c.in-Return.is c.take_return-in-Return.ensures.nearer

pub returns-in-Change-clause-hand : goal.returns-in-Change-clause-hand
returns-in-Change-clause-hand g c = c.take_change.ensures.hand

pub returns-in-Change-clause-fits : goal.returns-in-Change-clause-fits
returns-in-Change-clause-fits g c = c.take_change.ensures.fits

pub returns-in-Change-clause-same : goal.returns-in-Change-clause-same
returns-in-Change-clause-same g c = c.take_change.ensures.same

pub returns-in-Change-clause-stays : goal.returns-in-Change-clause-stays
returns-in-Change-clause-stays g c = c.take_change.ensures.stays

pub returns-in-Change-clause-ticks : goal.returns-in-Change-clause-ticks
returns-in-Change-clause-ticks g c = c.take_change.ensures.ticks

pub returns-in-Change-clause-nearer : goal.returns-in-Change-clause-nearer
returns-in-Change-clause-nearer g c = rw c.in-Change.is c.take_change.ensures.nearer

pub returns-in-Count-clause-hand : goal.returns-in-Count-clause-hand
returns-in-Count-clause-hand g c = c.count.ensures.hand

pub returns-in-Count-clause-fits : goal.returns-in-Count-clause-fits
returns-in-Count-clause-fits g c = c.count.ensures.fits

pub returns-in-Count-clause-same : goal.returns-in-Count-clause-same
returns-in-Count-clause-same g c = c.count.ensures.same

pub returns-in-Count-clause-stays : goal.returns-in-Count-clause-stays
returns-in-Count-clause-stays g c = c.count.ensures.stays

pub returns-in-Count-clause-ticks : goal.returns-in-Count-clause-ticks
returns-in-Count-clause-ticks g c = c.count.ensures.ticks

pub returns-in-Count-clause-nearer : goal.returns-in-Count-clause-nearer
returns-in-Count-clause-nearer g c = rw c.in-Count.is c.count.ensures.nearer

pub returns-in-Arrive-clause-hand : goal.returns-in-Arrive-clause-hand
returns-in-Arrive-clause-hand g c = c.arrive.ensures.hand

pub returns-in-Arrive-clause-fits : goal.returns-in-Arrive-clause-fits
returns-in-Arrive-clause-fits g c = c.arrive.ensures.fits

pub returns-in-Arrive-clause-same : goal.returns-in-Arrive-clause-same
returns-in-Arrive-clause-same g c = c.arrive.ensures.same

pub returns-in-Arrive-clause-stays : goal.returns-in-Arrive-clause-stays
returns-in-Arrive-clause-stays g c = c.arrive.ensures.stays

pub returns-in-Arrive-clause-ticks : goal.returns-in-Arrive-clause-ticks
returns-in-Arrive-clause-ticks g c = c.arrive.ensures.ticks

pub returns-in-Arrive-clause-nearer : goal.returns-in-Arrive-clause-nearer
returns-in-Arrive-clause-nearer g c = rw c.in-Arrive.is c.arrive.ensures.nearer

pub returns-in-Scan-clause-hand : goal.returns-in-Scan-clause-hand
returns-in-Scan-clause-hand g c = c.scan.ensures.hand

pub returns-in-Scan-clause-fits : goal.returns-in-Scan-clause-fits
returns-in-Scan-clause-fits g c = c.scan.ensures.fits

pub returns-in-Scan-clause-same : goal.returns-in-Scan-clause-same
returns-in-Scan-clause-same g c = c.scan.ensures.same

pub returns-in-Scan-clause-stays : goal.returns-in-Scan-clause-stays
returns-in-Scan-clause-stays g c = c.scan.ensures.stays

pub returns-in-Scan-clause-ticks : goal.returns-in-Scan-clause-ticks
returns-in-Scan-clause-ticks g c = c.scan.ensures.ticks

pub returns-in-Scan-clause-nearer : goal.returns-in-Scan-clause-nearer
returns-in-Scan-clause-nearer g c = rw c.in-Scan.is c.scan.ensures.nearer

pub returns-in-Admit-clause-hand : goal.returns-in-Admit-clause-hand
returns-in-Admit-clause-hand g c = c.admit.ensures.hand

pub returns-in-Admit-clause-fits : goal.returns-in-Admit-clause-fits
returns-in-Admit-clause-fits g c = c.admit.ensures.fits

pub returns-in-Admit-clause-same : goal.returns-in-Admit-clause-same
returns-in-Admit-clause-same g c = c.admit.ensures.same

pub returns-in-Admit-clause-stays : goal.returns-in-Admit-clause-stays
returns-in-Admit-clause-stays g c = c.admit.ensures.stays

pub returns-in-Admit-clause-ticks : goal.returns-in-Admit-clause-ticks
returns-in-Admit-clause-ticks g c = c.admit.ensures.ticks

pub returns-in-Admit-clause-nearer : goal.returns-in-Admit-clause-nearer
returns-in-Admit-clause-nearer g c = rw c.in-Admit.is c.admit.ensures.nearer

pub returns-in-Put-clause-hand : goal.returns-in-Put-clause-hand
returns-in-Put-clause-hand g c = c.put.ensures.hand

pub returns-in-Put-clause-fits : goal.returns-in-Put-clause-fits
returns-in-Put-clause-fits g c = c.put.ensures.fits

pub returns-in-Put-clause-same : goal.returns-in-Put-clause-same
returns-in-Put-clause-same g c = c.put.ensures.same

pub returns-in-Put-clause-stays : goal.returns-in-Put-clause-stays
returns-in-Put-clause-stays g c = c.put.ensures.stays

pub returns-in-Put-clause-ticks : goal.returns-in-Put-clause-ticks
returns-in-Put-clause-ticks g c = c.put.ensures.ticks

pub returns-in-Put-clause-nearer : goal.returns-in-Put-clause-nearer
returns-in-Put-clause-nearer g c = rw c.in-Put.is c.put.ensures.nearer

pub returns-in-Size-clause-hand : goal.returns-in-Size-clause-hand
returns-in-Size-clause-hand g c = c.size.ensures.hand

pub returns-in-Size-clause-fits : goal.returns-in-Size-clause-fits
returns-in-Size-clause-fits g c = c.size.ensures.fits

pub returns-in-Size-clause-same : goal.returns-in-Size-clause-same
returns-in-Size-clause-same g c = c.size.ensures.same

pub returns-in-Size-clause-stays : goal.returns-in-Size-clause-stays
returns-in-Size-clause-stays g c = c.size.ensures.stays

pub returns-in-Size-clause-ticks : goal.returns-in-Size-clause-ticks
returns-in-Size-clause-ticks g c = c.size.ensures.ticks

pub returns-in-Size-clause-nearer : goal.returns-in-Size-clause-nearer
returns-in-Size-clause-nearer g c = rw c.in-Size.is c.size.ensures.nearer

pub returns-in-Install-clause-hand : goal.returns-in-Install-clause-hand
returns-in-Install-clause-hand g c = c.install.ensures.hand

pub returns-in-Install-clause-fits : goal.returns-in-Install-clause-fits
returns-in-Install-clause-fits g c = c.install.ensures.fits

pub returns-in-Install-clause-same : goal.returns-in-Install-clause-same
returns-in-Install-clause-same g c = c.install.ensures.same

pub returns-in-Install-clause-stays : goal.returns-in-Install-clause-stays
returns-in-Install-clause-stays g c = c.install.ensures.stays

pub returns-in-Install-clause-ticks : goal.returns-in-Install-clause-ticks
returns-in-Install-clause-ticks g c = c.install.ensures.ticks

pub returns-in-Install-clause-nearer : goal.returns-in-Install-clause-nearer
returns-in-Install-clause-nearer g c = rw c.in-Install.is c.install.ensures.nearer

pub returns-in-Tell-clause-hand : goal.returns-in-Tell-clause-hand
returns-in-Tell-clause-hand g c = c.tell.ensures.hand

pub returns-in-Tell-clause-fits : goal.returns-in-Tell-clause-fits
returns-in-Tell-clause-fits g c = c.tell.ensures.fits

pub returns-in-Tell-clause-same : goal.returns-in-Tell-clause-same
returns-in-Tell-clause-same g c = c.tell.ensures.same

pub returns-in-Tell-clause-stays : goal.returns-in-Tell-clause-stays
returns-in-Tell-clause-stays g c = c.tell.ensures.stays

pub returns-in-Tell-clause-ticks : goal.returns-in-Tell-clause-ticks
returns-in-Tell-clause-ticks g c = c.tell.ensures.ticks

pub returns-in-Tell-clause-nearer : goal.returns-in-Tell-clause-nearer
returns-in-Tell-clause-nearer g c = rw c.in-Tell.is c.tell.ensures.nearer

pub returns-in-Give-clause-hand : goal.returns-in-Give-clause-hand
returns-in-Give-clause-hand g c = c.give.ensures.hand

pub returns-in-Give-clause-fits : goal.returns-in-Give-clause-fits
returns-in-Give-clause-fits g c = c.give.ensures.fits

pub returns-in-Give-clause-same : goal.returns-in-Give-clause-same
returns-in-Give-clause-same g c = c.give.ensures.same

pub returns-in-Give-clause-stays : goal.returns-in-Give-clause-stays
returns-in-Give-clause-stays g c = c.give.ensures.stays

pub returns-in-Give-clause-ticks : goal.returns-in-Give-clause-ticks
returns-in-Give-clause-ticks g c = c.give.ensures.ticks

pub returns-in-Give-clause-nearer : goal.returns-in-Give-clause-nearer
returns-in-Give-clause-nearer g c = rw c.in-Give.is c.give.ensures.nearer

pub returns-in-FreeIt-clause-hand : goal.returns-in-FreeIt-clause-hand
returns-in-FreeIt-clause-hand g c = c.free_it.ensures.hand

pub returns-in-FreeIt-clause-fits : goal.returns-in-FreeIt-clause-fits
returns-in-FreeIt-clause-fits g c = c.free_it.ensures.fits

pub returns-in-FreeIt-clause-same : goal.returns-in-FreeIt-clause-same
returns-in-FreeIt-clause-same g c = c.free_it.ensures.same

pub returns-in-FreeIt-clause-stays : goal.returns-in-FreeIt-clause-stays
returns-in-FreeIt-clause-stays g c = c.free_it.ensures.stays

pub returns-in-FreeIt-clause-ticks : goal.returns-in-FreeIt-clause-ticks
returns-in-FreeIt-clause-ticks g c = c.free_it.ensures.ticks

pub returns-in-FreeIt-clause-nearer : goal.returns-in-FreeIt-clause-nearer
returns-in-FreeIt-clause-nearer g c = rw c.in-FreeIt.is c.free_it.ensures.nearer

pub returns-in-Enter-clause-hand : goal.returns-in-Enter-clause-hand
returns-in-Enter-clause-hand g c = c.enter.ensures.hand

pub returns-in-Enter-clause-fits : goal.returns-in-Enter-clause-fits
returns-in-Enter-clause-fits g c = c.enter.ensures.fits

pub returns-in-Enter-clause-same : goal.returns-in-Enter-clause-same
returns-in-Enter-clause-same g c = c.enter.ensures.same

pub returns-in-Enter-clause-stays : goal.returns-in-Enter-clause-stays
returns-in-Enter-clause-stays g c = c.enter.ensures.stays

pub returns-in-Enter-clause-ticks : goal.returns-in-Enter-clause-ticks
returns-in-Enter-clause-ticks g c = c.enter.ensures.ticks

pub returns-in-Enter-clause-nearer : goal.returns-in-Enter-clause-nearer
returns-in-Enter-clause-nearer g c = rw c.in-Enter.is c.enter.ensures.nearer

pub returns-in-Look-clause-hand : goal.returns-in-Look-clause-hand
returns-in-Look-clause-hand g c = c.look.ensures.hand

pub returns-in-Look-clause-fits : goal.returns-in-Look-clause-fits
returns-in-Look-clause-fits g c = c.look.ensures.fits

pub returns-in-Look-clause-same : goal.returns-in-Look-clause-same
returns-in-Look-clause-same g c = c.look.ensures.same

pub returns-in-Look-clause-stays : goal.returns-in-Look-clause-stays
returns-in-Look-clause-stays g c = c.look.ensures.stays

pub returns-in-Look-clause-ticks : goal.returns-in-Look-clause-ticks
returns-in-Look-clause-ticks g c = c.look.ensures.ticks

pub returns-in-Look-clause-nearer : goal.returns-in-Look-clause-nearer
returns-in-Look-clause-nearer g c = rw c.in-Look.is c.look.ensures.nearer

pub returns-in-Early-clause-hand : goal.returns-in-Early-clause-hand
returns-in-Early-clause-hand g c = c.early.ensures.hand

pub returns-in-Early-clause-fits : goal.returns-in-Early-clause-fits
returns-in-Early-clause-fits g c = c.early.ensures.fits

pub returns-in-Early-clause-same : goal.returns-in-Early-clause-same
returns-in-Early-clause-same g c = c.early.ensures.same

pub returns-in-Early-clause-stays : goal.returns-in-Early-clause-stays
returns-in-Early-clause-stays g c = c.early.ensures.stays

pub returns-in-Early-clause-ticks : goal.returns-in-Early-clause-ticks
returns-in-Early-clause-ticks g c = c.early.ensures.ticks

pub returns-in-Early-clause-nearer : goal.returns-in-Early-clause-nearer
returns-in-Early-clause-nearer g c = rw c.in-Early.is c.early.ensures.nearer

pub returns-in-Take-clause-hand : goal.returns-in-Take-clause-hand
returns-in-Take-clause-hand g c = c.take.ensures.hand

pub returns-in-Take-clause-fits : goal.returns-in-Take-clause-fits
returns-in-Take-clause-fits g c = c.take.ensures.fits

pub returns-in-Take-clause-same : goal.returns-in-Take-clause-same
returns-in-Take-clause-same g c = c.take.ensures.same

pub returns-in-Take-clause-stays : goal.returns-in-Take-clause-stays
returns-in-Take-clause-stays g c = c.take.ensures.stays

pub returns-in-Take-clause-ticks : goal.returns-in-Take-clause-ticks
returns-in-Take-clause-ticks g c = c.take.ensures.ticks

pub returns-in-Take-clause-nearer : goal.returns-in-Take-clause-nearer
returns-in-Take-clause-nearer g c = rw c.in-Take.is c.take.ensures.nearer

pub returns-in-Shut-clause-hand : goal.returns-in-Shut-clause-hand
returns-in-Shut-clause-hand g c = c.shut.ensures.hand

pub returns-in-Shut-clause-fits : goal.returns-in-Shut-clause-fits
returns-in-Shut-clause-fits g c = c.shut.ensures.fits

pub returns-in-Shut-clause-same : goal.returns-in-Shut-clause-same
returns-in-Shut-clause-same g c = c.shut.ensures.same

pub returns-in-Shut-clause-stays : goal.returns-in-Shut-clause-stays
returns-in-Shut-clause-stays g c = c.shut.ensures.stays

pub returns-in-Shut-clause-ticks : goal.returns-in-Shut-clause-ticks
returns-in-Shut-clause-ticks g c = c.shut.ensures.ticks

pub returns-in-Shut-clause-nearer : goal.returns-in-Shut-clause-nearer
returns-in-Shut-clause-nearer g c = rw c.in-Shut.is c.shut.ensures.nearer

pub returns-in-Back-clause-hand : goal.returns-in-Back-clause-hand
returns-in-Back-clause-hand g c = c.back.ensures.hand

pub returns-in-Back-clause-fits : goal.returns-in-Back-clause-fits
returns-in-Back-clause-fits g c = c.back.ensures.fits

pub returns-in-Back-clause-same : goal.returns-in-Back-clause-same
returns-in-Back-clause-same g c = c.back.ensures.same

pub returns-in-Back-clause-stays : goal.returns-in-Back-clause-stays
returns-in-Back-clause-stays g c = c.back.ensures.stays

pub returns-in-Back-clause-ticks : goal.returns-in-Back-clause-ticks
returns-in-Back-clause-ticks g c = c.back.ensures.ticks

pub returns-in-Back-clause-nearer : goal.returns-in-Back-clause-nearer
returns-in-Back-clause-nearer g c = rw c.in-Back.is c.back.ensures.nearer

pub returns-in-Leave-clause-hand : goal.returns-in-Leave-clause-hand
returns-in-Leave-clause-hand g c = c.leave.ensures.hand

pub returns-in-Leave-clause-fits : goal.returns-in-Leave-clause-fits
returns-in-Leave-clause-fits g c = c.leave.ensures.fits

pub returns-in-Leave-clause-same : goal.returns-in-Leave-clause-same
returns-in-Leave-clause-same g c = c.leave.ensures.same

pub returns-in-Leave-clause-stays : goal.returns-in-Leave-clause-stays
returns-in-Leave-clause-stays g c = c.leave.ensures.stays

pub returns-in-Leave-clause-ticks : goal.returns-in-Leave-clause-ticks
returns-in-Leave-clause-ticks g c = c.leave.ensures.ticks

pub returns-in-Leave-clause-nearer : goal.returns-in-Leave-clause-nearer
returns-in-Leave-clause-nearer g c = rw c.in-Leave.is c.leave.ensures.nearer

pub returns-in-Ask-clause-hand : goal.returns-in-Ask-clause-hand
returns-in-Ask-clause-hand g c = c.ask.ensures.hand

pub returns-in-Ask-clause-fits : goal.returns-in-Ask-clause-fits
returns-in-Ask-clause-fits g c = c.ask.ensures.fits

pub returns-in-Ask-clause-same : goal.returns-in-Ask-clause-same
returns-in-Ask-clause-same g c = c.ask.ensures.same

pub returns-in-Ask-clause-stays : goal.returns-in-Ask-clause-stays
returns-in-Ask-clause-stays g c = c.ask.ensures.stays

pub returns-in-Ask-clause-ticks : goal.returns-in-Ask-clause-ticks
returns-in-Ask-clause-ticks g c = c.ask.ensures.ticks

pub returns-in-Ask-clause-nearer : goal.returns-in-Ask-clause-nearer
returns-in-Ask-clause-nearer g c = rw c.in-Ask.is c.ask.ensures.nearer

pub returns-in-Sweep-clause-hand : goal.returns-in-Sweep-clause-hand
returns-in-Sweep-clause-hand g c = c.sweep.ensures.hand

pub returns-in-Sweep-clause-fits : goal.returns-in-Sweep-clause-fits
returns-in-Sweep-clause-fits g c = c.sweep.ensures.fits

pub returns-in-Sweep-clause-same : goal.returns-in-Sweep-clause-same
returns-in-Sweep-clause-same g c = c.sweep.ensures.same

pub returns-in-Sweep-clause-stays : goal.returns-in-Sweep-clause-stays
returns-in-Sweep-clause-stays g c = c.sweep.ensures.stays

pub returns-in-Sweep-clause-ticks : goal.returns-in-Sweep-clause-ticks
returns-in-Sweep-clause-ticks g c = c.sweep.ensures.ticks

pub returns-in-Sweep-clause-nearer : goal.returns-in-Sweep-clause-nearer
returns-in-Sweep-clause-nearer g c = rw c.in-Sweep.is c.sweep.ensures.nearer

pub returns-in-Pay-clause-hand : goal.returns-in-Pay-clause-hand
returns-in-Pay-clause-hand g c = c.pay.ensures.hand

pub returns-in-Pay-clause-fits : goal.returns-in-Pay-clause-fits
returns-in-Pay-clause-fits g c = c.pay.ensures.fits

pub returns-in-Pay-clause-same : goal.returns-in-Pay-clause-same
returns-in-Pay-clause-same g c = c.pay.ensures.same

pub returns-in-Pay-clause-stays : goal.returns-in-Pay-clause-stays
returns-in-Pay-clause-stays g c = c.pay.ensures.stays

pub returns-in-Pay-clause-ticks : goal.returns-in-Pay-clause-ticks
returns-in-Pay-clause-ticks g c = c.pay.ensures.ticks

pub returns-in-Pay-clause-nearer : goal.returns-in-Pay-clause-nearer
returns-in-Pay-clause-nearer g c = rw c.in-Pay.is c.pay.ensures.nearer

pub returns-in-Fetch-clause-hand : goal.returns-in-Fetch-clause-hand
returns-in-Fetch-clause-hand g c = c.fetch.ensures.hand

pub returns-in-Fetch-clause-fits : goal.returns-in-Fetch-clause-fits
returns-in-Fetch-clause-fits g c = c.fetch.ensures.fits

pub returns-in-Fetch-clause-same : goal.returns-in-Fetch-clause-same
returns-in-Fetch-clause-same g c = c.fetch.ensures.same

pub returns-in-Fetch-clause-stays : goal.returns-in-Fetch-clause-stays
returns-in-Fetch-clause-stays g c = c.fetch.ensures.stays

pub returns-in-Fetch-clause-ticks : goal.returns-in-Fetch-clause-ticks
returns-in-Fetch-clause-ticks g c = c.fetch.ensures.ticks

pub returns-in-Fetch-clause-nearer : goal.returns-in-Fetch-clause-nearer
returns-in-Fetch-clause-nearer g c = rw c.in-Fetch.is c.fetch.ensures.nearer

pub returns-in-Note-clause-hand : goal.returns-in-Note-clause-hand
returns-in-Note-clause-hand g c = c.note.ensures.hand

pub returns-in-Note-clause-fits : goal.returns-in-Note-clause-fits
returns-in-Note-clause-fits g c = c.note.ensures.fits

pub returns-in-Note-clause-same : goal.returns-in-Note-clause-same
returns-in-Note-clause-same g c = c.note.ensures.same

pub returns-in-Note-clause-stays : goal.returns-in-Note-clause-stays
returns-in-Note-clause-stays g c = c.note.ensures.stays

pub returns-in-Note-clause-ticks : goal.returns-in-Note-clause-ticks
returns-in-Note-clause-ticks g c = c.note.ensures.ticks

pub returns-in-Note-clause-nearer : goal.returns-in-Note-clause-nearer
returns-in-Note-clause-nearer g c = rw c.in-Note.is c.note.ensures.nearer

pub returns-in-Claim-clause-hand : goal.returns-in-Claim-clause-hand
returns-in-Claim-clause-hand g c = c.claim.ensures.hand

pub returns-in-Claim-clause-fits : goal.returns-in-Claim-clause-fits
returns-in-Claim-clause-fits g c = c.claim.ensures.fits

pub returns-in-Claim-clause-same : goal.returns-in-Claim-clause-same
returns-in-Claim-clause-same g c = c.claim.ensures.same

pub returns-in-Claim-clause-stays : goal.returns-in-Claim-clause-stays
returns-in-Claim-clause-stays g c = c.claim.ensures.stays

pub returns-in-Claim-clause-ticks : goal.returns-in-Claim-clause-ticks
returns-in-Claim-clause-ticks g c = c.claim.ensures.ticks

pub returns-in-Claim-clause-nearer : goal.returns-in-Claim-clause-nearer
returns-in-Claim-clause-nearer g c = rw c.in-Claim.is c.claim.ensures.nearer
