-- The printed text of answers.
use Rattle.std.specs.Prelude.{ℕ, zero, suc, ℤ, List, [], ◌∷◌, ◌++◌, length, map, Option, Some, None}
use Rattle.std.specs.Prelude.{decimal, flat_map, codes}
use Rattle.std.specs.Fmt.{signed_decimal}
use Rattle.std.specs.List.{join_with_byte}
use Rattle.plan_ast.specs.declared.answers.AggValue.{AggValue}
use Rattle.plan_ast.specs.declared.answers.AggValue.TheVariants.{Count, Sum, Least, Greatest}
use Rattle.plan_ast.specs.declared.answers.Group.{Group}
use Rattle.plan_ast.specs.declared.answers.Answer.{Answer}
use Rattle.plan_ast.specs.declared.answers.Answer.TheVariants.{Rows, Totals, Groups}
use Rattle.report_text.specs.declared.replies.Reply.{Reply}
use Rattle.report_text.specs.declared.replies.Reply.TheVariants as reply
use Rattle.report_text.specs.declared.replies.QueryReply.{QueryReply}

-- a line, with its end
abbrev pub line : List ℕ → List ℕ
line text = text ++ 10 ∷ []

abbrev pub with_commas : List (List ℕ) → List ℕ
with_commas texts = join_with_byte 44 texts

-- a value, or a dash for the least or greatest of nothing
abbrev pub value_or_dash : Option ℤ → List ℕ
value_or_dash None = codes "-"
value_or_dash (Some value) = signed_decimal value

abbrev pub total_text : AggValue → List ℕ
total_text (Count count) = decimal count
total_text (Sum sum) = signed_decimal sum
total_text (Least value) = value_or_dash value
total_text (Greatest value) = value_or_dash value

abbrev pub totals_text : List AggValue → List ℕ
totals_text values = with_commas (map total_text values)

abbrev pub row_text : List ℤ → List ℕ
row_text row = with_commas (map signed_decimal row)

abbrev pub row_line : List ℤ → List ℕ
row_line row = codes "row " ++ row_text row

abbrev pub totals_line : List AggValue → List ℕ
totals_line values = codes "total " ++ totals_text values

abbrev pub group_line : Group → List ℕ
group_line group = codes "group " ++ row_text group.key ++ codes ": " ++ totals_text group.values

-- the lines of an answer: one for each row, one for totals, or one for each group
abbrev pub answer_lines : Answer → List (List ℕ)
answer_lines (Rows rows) = map row_line rows
answer_lines (Totals values) = totals_line values ∷ []
answer_lines (Groups groups) = map group_line groups

-- the line above the lines of an answer, or in place of them
abbrev pub heading : ℕ → Reply → List ℕ
heading query (reply.Answer answer) =
    codes "query " ++ decimal query ++ codes " lines " ++ decimal (length (answer_lines answer))
heading query reply.Memory = codes "query " ++ decimal query ++ codes " memory"

-- the lines of a reply
abbrev pub reply_lines : ℕ → Reply → List (List ℕ)
reply_lines query (reply.Answer answer) = heading query (reply.Answer answer) ∷ answer_lines answer
reply_lines query reply.Memory = heading query reply.Memory ∷ []

abbrev pub reply_bytes : QueryReply → List ℕ
reply_bytes told = flat_map line (reply_lines told.query told.reply)

-- the text of answers
abbrev pub answers_bytes : List QueryReply → List ℕ
answers_bytes replies = flat_map reply_bytes replies

-- what precedes a value of a list: a comma, or nothing before the first value
abbrev pub comma_before : ℕ → List ℕ
comma_before zero = []
comma_before (suc place) = codes ","
