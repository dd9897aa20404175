-- The replies of a holder.
use Rattle.std.proofs.Common.{◌≡◌, inl, inr, ℕ, Bool, true, false, cond}
use Rattle.std.proofs.Common.{Option, Some, None, IsSome, unwrap_or, refl, sym, ap, subst}
use Rattle.slot_history.specs.declared.place.Held.{Held}
use Rattle.slot_station.specs.declared.token.Holder.{Holder}
use Rattle.plan_ast.specs.declared.answers.Answer.{Answer}
use Rattle.report_text.specs.declared.replies.QueryReply.{QueryReply}
use Rattle.report_text.specs.declared.replies.Reply.{Reply}
use Rattle.report_text.specs.declared.replies.Reply.TheVariants as reply
use Rattle.bench_cell.specs.declared.plan.Plan.{Plan}
use Rattle.turn_model.specs.Endings.{IsReplyAt}
use Rattle.worker_machine.specs.Loads.{load_of}
use Rattle.worker_machine.specs.Hands.{EndsQuery}

abbrev pub reply_to : Holder → Reply → QueryReply
reply_to h r = record { query = unwrap_or h.query 0; reply = r }

abbrev pub held_of : Holder → Held
held_of h = record { query = h.query; stage = h.stage; again = h.again; noted = 0; total = None }

pub some-query : (o : Option ℕ) → IsSome o → o ≡ Some (unwrap_or o 0)
some-query (Some q) some = refl
some-query None some = absurd (cc)

-- the reply to the query of a holder, with its answer or for want of memory
pub answered-at : (plan : Plan) (h h' : Holder) (held : Held) (answer : Answer) → h' ≡ h → held ≡ held_of h → IsSome h.query → EndsQuery plan h answer
    → IsReplyAt (load_of plan) (reply_to h' (reply.Answer answer)) held
answered-at plan h h' held answer same is some ends =
    subst (λ x. IsReplyAt (load_of plan) (reply_to x (reply.Answer answer)) held) (sym same)
    (subst (IsReplyAt (load_of plan) (reply_to h (reply.Answer answer))) (sym is) (record {
      query = some-query h.query some;
      reply = ends.answer_is;
      ended = inr (ends.again, ends.last);
    }))

pub given-up-at : (plan : Plan) (h h' : Holder) (held : Held) → h' ≡ h → held ≡ held_of h → IsSome h.query
    → IsReplyAt (load_of plan) (reply_to h' reply.Memory) held
given-up-at plan h h' held same is some =
    subst (λ x. IsReplyAt (load_of plan) (reply_to x reply.Memory) held) (sym same)
    (subst (IsReplyAt (load_of plan) (reply_to h reply.Memory)) (sym is) (record { query = some-query h.query some; reply = tt; ended = inl refl }))

pub gives-query : (b : Bool) (o : Option ℕ) (q : ℕ) → cond b o None ≡ Some q → unwrap_or o 0 ≡ q
gives-query true o q is = ap (λ x. unwrap_or x 0) is
gives-query false o q is = absurd (cc)
