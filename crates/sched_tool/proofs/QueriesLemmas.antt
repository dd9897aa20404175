-- Queries one after another.
use Rattle.std.proofs.Common.{◌≡◌, ℕ, ◌+◌, ◌<◌, List, [], ◌∷◌, ◌++◌, length, map, take, get_or, All, Some, sym, ap, ◌∙◌, subst, inl, inr, refl, ◌⊎◌, arith}
use Rattle.std.specs.List.{enumerate_from}
use Rattle.std.proofs.lemmas.List.{length-map, length-take-le, map-append, take_more}
use Rattle.std.proofs.lemmas.List.Elements.{All-push}
use Rattle.std.proofs.lemmas.Option.{slice_get-get_or}
use Rattle.plan_ast.specs.Answer.{answer_of}
use Rattle.plan_ast.specs.Checks.{query_of}
use Rattle.plan_ast.specs.Names.{refusal_of}
use Rattle.plan_ast.specs.Subject.{Subject}
use Rattle.plan_ast.specs.declared.checks.Checked.{Checked}
use Rattle.plan_ast.specs.declared.queries.NamedTable.{NamedTable}
use Rattle.plan_ast.specs.declared.queries.Query.{Query}
use Rattle.plan_ast.specs.declared.refusals.PlanRefusal.{PlanRefusal}
use Rattle.plan_ast.specs.declared.refusals.PlanRefusal.TheVariants.{UnknownTable, UnknownColumn, OutOfMemory}
use Rattle.report_text.specs.declared.replies.QueryReply.{QueryReply}
use Rattle.report_text.specs.declared.replies.Reply.TheVariants.{Answer}
use Rattle.sched_tool.specs.CheckCommand.{replies_of}
use Rattle.sched_tool.specs.Refusals.{AreQueriesRefused, IsFirstRefused, query_refusal}
use Rattle.sched_tool.specs.Subjects.{AllAnswerable, IsAnswerable}

-- the queries checked so far, and the next
pub same_more : (queries : List Query) (all : List Checked) (checked : Checked) (number : ℕ) (query : Query) → number < length queries
    → query ≡ get_or queries number query → map query_of all ≡ take number queries → query_of checked ≡ query
    → map query_of (all ++ checked ∷ []) ≡ take (number + 1) queries
same_more queries all checked number query short is before same =
    map-append query_of all (checked ∷ []) ∙ ap (λ v. v ++ query_of checked ∷ []) before ∙ ap (λ v. take number queries ++ v ∷ []) (same ∙ is)
    ∙ sym (take_more queries number query short)

-- the queries that can be answered so far, and the next
pub AllAnswerable-more : (tables : List NamedTable) (queries : List Query) (number : ℕ) (query : Query) → number < length queries
    → query ≡ get_or queries number query → AllAnswerable tables (take number queries) → IsAnswerable tables query
    → AllAnswerable tables (take (number + 1) queries)
AllAnswerable-more tables queries number query short is before next =
    subst (All (IsAnswerable tables)) (ap (λ q. take number queries ++ q ∷ []) is ∙ sym (take_more queries number query short))
    (All-push (IsAnswerable tables) (take number queries) query before next)

module _ (subject : Subject) (number : ℕ) (query : Query) (short : number < length subject.queries) (is : query ≡ get_or subject.queries number query)
    (before : AllAnswerable subject.tables (take number subject.queries)) where
  first_is : (refusal : PlanRefusal) → refusal_of subject.tables query ≡ Some refusal → IsFirstRefused subject number refusal
  first_is refusal why = record {
    query = query;
    is = slice_get-get_or subject.queries number query short
        ∙ ap (λ v. Some v) (sym is);
    refused = why;
    first = before;
  }

  -- the first query that is refused
  pub first_refused : (refusal : PlanRefusal) → ((refusal ≡ OutOfMemory) ⊎ (refusal_of subject.tables query ≡ Some refusal))
      → AreQueriesRefused subject (query_refusal number refusal)
  first_refused (UnknownTable name) (inl e) = absurd (cc)
  first_refused (UnknownTable name) (inr why) = inr (number, UnknownTable name, refl, first_is (UnknownTable name) why)
  first_refused (UnknownColumn name) (inl e) = absurd (cc)
  first_refused (UnknownColumn name) (inr why) = inr (number, UnknownColumn name, refl, first_is (UnknownColumn name) why)
  first_refused OutOfMemory e = inl refl

-- one more query is numbered by the count of those before it
enumerate_from-push : {X : Type 0} (n : ℕ) (xs : List X) (x : X) → enumerate_from n (xs ++ x ∷ []) ≡ enumerate_from n xs ++ (n + length xs, x) ∷ []
enumerate_from-push n [] x = ap (λ k. (k, x) ∷ []) (omega arith)
enumerate_from-push n (y ∷ xs) x = ap (λ v. (n, y) ∷ v) (enumerate_from-push (n + 1) xs x ∙ ap (λ k. enumerate_from (n + 1) xs ++ (k, x) ∷ []) (omega arith))

-- the replies so far, and the next
pub replies_of-more : (tables : List NamedTable) (all : List Checked) (number : ℕ) (checked : Checked) (reply : QueryReply) → number < length all
    → checked ≡ get_or all number checked → reply ≡ record { query = number; reply = Answer (answer_of tables (query_of checked)) }
    → replies_of (record { tables = tables; queries = map query_of (take number all) }) ++ reply ∷ [] ≡ replies_of
    (record { tables = tables; queries = map query_of (take (number + 1) all) })
replies_of-more tables all number checked reply short is replied =
    let numbered : ℕ × Query → QueryReply = λ q. record { query = q.0; reply = Answer (answer_of tables q.1) } in
    let before = map query_of (take number all) in
    let count : 0 + length before ≡ number = omega (arith, length-map (take number all) query_of, length-take-le number all (omega arith)) in
    let queries : map query_of (take (number + 1) all) ≡ before ++ query_of checked ∷ [] = ap (map query_of) (take_more all number checked short)
    ∙ map-append query_of (take number all) (get_or all number checked ∷ []) ∙ ap (λ c. before ++ query_of c ∷ []) (sym is) in
    let said : reply ≡ numbered (0 + length before, query_of checked) = replied ∙ ap (λ k. numbered (k, query_of checked)) (sym count) in
    ap (λ r. map numbered (enumerate_from 0 before) ++ r ∷ []) said
    ∙ sym (map-append numbered (enumerate_from 0 before) ((0 + length before, query_of checked) ∷ []))
    ∙ ap (map numbered) (sym (enumerate_from-push 0 before (query_of checked)))
    ∙ ap (λ v. map numbered (enumerate_from 0 v)) (sym queries)
