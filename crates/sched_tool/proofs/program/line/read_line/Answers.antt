use Rattle.std.proofs.Common.{◌≡◌, ◌∷◌, true, false, ap, bytes_eq, codes, map, None, option_map, Some, sym, ◌∙◌}
use Rattle.std.specs.String.{string_bytes}
use Rattle.sched_tool.specs.Grammar.{begins_with_dash, given_by, is_option_word, option_of, with_joined, with_option, with_word}
use Rattle.sched_tool.specs.Lines.{seen}
use Rattle.sched_tool.proofs.GrammarLemmas.{after_joined, after_option, after_word, told}
use Rattle.sched_tool.proofs.program.line.read_line.Goals as goal

pub loop-word-preserved-then-not-is_option_word : goal.loop-word-preserved-then-not-is_option_word
loop-word-preserved-then-not-is_option_word c =
    let before = seen c.loop-word.line in
    let next = seen c.in_ok-line.line in
    let word = string_bytes c.in-Some.word.now in
    let text : c.as_str-word.result.now ≡ word = c.as_str-word.ensures.value in
    let split : c.loop-word.rest.now ≡ c.in-Some.word.now ∷ c.in-Some.more.now = c.in-Some.ensures.cases.0 in
    let ends = told (λ t. bytes_eq t (codes "--")) _ word c.eq.result false text c.eq.ensures c.if-eq.false in
    let is = told is_option_word _ word c.is_option_word.result false text c.is_option_word.ensures c.if-not-is_option_word.true in
    let added = told (λ t. with_word t before) _ word (option_map seen c.with_word.result) (Some next) text c.with_word.ensures
    (ap (option_map seen) c.in_ok-line.was) in
    sym (after_word before next word (map string_bytes c.in-Some.more.now) ends is added)
    ∙ ap (λ words. given_by before (map string_bytes words)) (sym split) ∙ c.loop-word.invariant

pub loop-word-preserved : goal.loop-word-preserved
loop-word-preserved c =
    let before = seen c.loop-word.line in
    let next = seen c.in_ok-line-3.line in
    let word = string_bytes c.in-Some.word.now in
    let text : c.as_str-word.result.now ≡ word = c.as_str-word.ensures.value in
    let split : c.loop-word.rest.now ≡ c.in-Some.word.now ∷ c.in-Some.more.now = c.in-Some.ensures.cases.0 in
    let ends = told (λ t. bytes_eq t (codes "--")) _ word c.eq.result false text c.eq.ensures c.if-eq.false in
    let is = told is_option_word _ word c.is_option_word.result true text c.is_option_word.ensures c.if-not-is_option_word.false in
    let none = told option_of _ word c.option_of.result None text c.option_of.ensures c.in_default-option_of.is in
    let added = told (λ t. with_joined t before) _ word (option_map seen c.with_joined.result) (Some next) text c.with_joined.ensures
    (ap (option_map seen) c.in_ok-line-3.was) in
    sym (after_joined before next word (map string_bytes c.in-Some.more.now) ends is none added)
    ∙ ap (λ words. given_by before (map string_bytes words)) (sym split) ∙ c.loop-word.invariant

pub loop-word-preserved-in-Some-option_of : goal.loop-word-preserved-in-Some-option_of
loop-word-preserved-in-Some-option_of c =
    let before = seen c.loop-word.line in
    let next = seen c.in_ok-line-2.line in
    let word = string_bytes c.in-Some.word.now in
    let value = string_bytes c.in_ok-value.value.now in
    let rest = c.in_ok-value.after.now in
    let name = c.in-Some-option_of.name in
    let text : c.as_str-word.result.now ≡ word = c.as_str-word.ensures.value in
    let split : c.loop-word.rest.now ≡ c.in-Some.word.now ∷ c.in-Some.more.now = c.in-Some.ensures.cases.0 in
    let again : c.in-Some.more.now ≡ c.in_ok-value.value.now ∷ rest = c.in_ok-value.ensures.cases.0 in
    let ends = told (λ t. bytes_eq t (codes "--")) _ word c.eq.result false text c.eq.ensures c.if-eq.false in
    let is = told is_option_word _ word c.is_option_word.result true text c.is_option_word.ensures c.if-not-is_option_word.false in
    let named = told option_of _ word c.option_of.result (Some name) text c.option_of.ensures c.in-Some-option_of.is in
    let dash = told begins_with_dash _ value c.begins_with_dash.result false c.as_str.ensures.value c.begins_with_dash.ensures c.if-begins_with_dash.false in
    let added = told (λ t. with_option name t before) _ value (option_map seen c.with_option.result) (Some next) c.as_str-in-Some-option_of.ensures.value
    c.with_option.ensures (ap (option_map seen) c.in_ok-line-2.was) in
    sym (after_option before next word value (map string_bytes rest) name ends is named dash added)
    ∙ ap (λ words. given_by before (word ∷ map string_bytes words)) (sym again)
    ∙ ap (λ words. given_by before (map string_bytes words)) (sym split) ∙ c.loop-word.invariant
