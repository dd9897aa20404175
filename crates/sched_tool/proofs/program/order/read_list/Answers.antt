use Rattle.std.proofs.Common.{◌≡◌, ◌≤◌, ◌<◌, ◌++◌, [], ◌∷◌, None, Some, ap, arith, inl, length, length-append, refl, rules, subst, sym, ◌∙◌}
use Rattle.std.proofs.lemmas.Result.{err_from_is_err_and}
use Rattle.sched_tool.specs.Words.{fields_of, number_of, numbers_of}
use Rattle.sched_tool.proofs.WordLemmas.{first_field, last_read, list_is, list_none, list_too_long, no_number, number_read, one_field, some_field, unread_then}
use Rattle.sched_tool.proofs.WordLemmas.{with_fields}
use Rattle.sched_tool.proofs.program.order.read_list.Goals as goal

pub returns-in_err-number_of-clause-err : goal.returns-in_err-number_of-clause-err
returns-in_err-number_of-clause-err c =
    let p = err_from_is_err_and c.from_residual.result c.from_residual.ensures.1 in
    let greatest = c.args.greatest in
    let text = c.args.text.now in
    let so_far = c.loop-field.list.items in
    let field = c.in-Some.field.now in
    let more = fields_of c.in-Some.more.now in
    let cut = c.in-Some.ensures.byte (omega arith) (λ w o h. h) in
    let split = first_field c.loop-field.rest.now field c.in-Some.more.now cut.2 cut.0 cut.1 in
    let unread = unread_then (number_of 9 0 greatest field) (numbers_of greatest (fields_of text)) c.in_err-number_of.field-0.0
    (λ none. sym c.loop-field.invariant.3 ∙ ap (with_fields greatest so_far) split ∙ no_number greatest so_far field more none)
    c.in_err-number_of.ensures.err in
    rw (p.1, p.2) (unread_then _ _ c.in_err-number_of.field-0.0 (list_none greatest text) unread)

pub returns-then-len-eq-MOST_NUMBERS-clause-err : goal.returns-then-len-eq-MOST_NUMBERS-clause-err
returns-then-len-eq-MOST_NUMBERS-clause-err c =
    let cut = c.in-Some.ensures.byte (omega arith) (λ w o h. h) in
    let split = first_field c.loop-field.rest.now c.in-Some.field.now c.in-Some.more.now cut.2 cut.0 cut.1 in
    let items = ap length c.in_ok-push.ensures.items ∙ length-append c.loop-field.list.items (c.in_ok-number_of.field-0 ∷ []) in
    let lengths = ap length split in
    let more = some_field c.in-Some.more.now in
    let many : 4096 < length (fields_of c.args.text.now) =
    omega (arith, items, lengths, more, c.loop-field.invariant.2, c.len.ensures, c.if-len-eq-MOST_NUMBERS.true) in
    inl (refl, list_too_long c.args.greatest c.args.text.now many)

pub loop-field-preserved : goal.loop-field-preserved
loop-field-preserved c =
    let greatest = c.args.greatest in
    let field = c.in-Some.field.now in
    let more = c.in-Some.more.now in
    let so_far = c.loop-field.list.items in
    let cut = c.in-Some.ensures.byte (omega arith) (λ w o h. h) in
    let split = first_field c.loop-field.rest.now field more cut.2 cut.0 cut.1 in
    let next = number_read greatest so_far field (fields_of more) c.in_ok-number_of.field-0 c.in_ok-number_of.ensures.is in
    let items = ap length c.in_ok-push.ensures.items ∙ length-append so_far (c.in_ok-number_of.field-0 ∷ []) in
    let lengths = ap length split in (
      search rules,
      omega (arith, items, c.loop-field.invariant.1, c.len.ensures, c.if-len-eq-MOST_NUMBERS.false),
      omega (arith, items, lengths, c.loop-field.invariant.2),
      subst (λ v. with_fields greatest v (fields_of more) ≡ numbers_of greatest (fields_of c.args.text.now)) (sym c.in_ok-push.ensures.items)
          (sym next ∙ sym (ap (with_fields greatest so_far) split) ∙ c.loop-field.invariant.3),
    )

pub returns-in_err-number_of-2-clause-err : goal.returns-in_err-number_of-2-clause-err
returns-in_err-number_of-2-clause-err c =
    let p = err_from_is_err_and c.from_residual-in_err-number_of-2.result c.from_residual-in_err-number_of-2.ensures.1 in
    let greatest = c.args.greatest in
    let text = c.args.text.now in
    let so_far = c.loop-field.list.items in
    let rest = c.loop-field.rest.now in
    let one = one_field rest (c.in_default.ensures.byte (omega arith) (λ w o h. h)) in
    let unread = unread_then (number_of 9 0 greatest rest) (numbers_of greatest (fields_of text)) c.in_err-number_of-2.field-0.0
    (λ none. sym c.loop-field.invariant.3 ∙ ap (with_fields greatest so_far) one ∙ no_number greatest so_far rest [] none)
    c.in_err-number_of-2.ensures.err in
    rw (p.1, p.2) (unread_then _ _ c.in_err-number_of-2.field-0.0 (list_none greatest text) unread)

pub returns-clause-ok : goal.returns-clause-ok
returns-clause-ok c =
    let greatest = c.args.greatest in
    let text = c.args.text.now in
    let so_far = c.loop-field.list.items in
    let rest = c.loop-field.rest.now in
    let one = one_field rest (c.in_default.ensures.byte (omega arith) (λ w o h. h)) in
    let few : length (fields_of text) ≤ 4096 = omega (arith, ap length one, c.loop-field.invariant.1, c.loop-field.invariant.2) in
    let last = last_read greatest so_far rest c.in_ok-number_of-2.field-0 c.in_ok-number_of-2.ensures.is in
    list_is greatest text few ∙ sym c.loop-field.invariant.3 ∙ ap (with_fields greatest so_far) one ∙ last ∙ ap Some (sym c.in_ok-push-2.ensures.items)
