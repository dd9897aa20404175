-- A text stands for one table at most.
use Rattle.std.proofs.Common.{◌≡◌, ℕ, List, [], ◌∷◌, ◌∙◌, ap, sym}
use Rattle.col_table.specs.NamedRows.{NamedRows}
use Rattle.csv_tables.specs.Loading.{RecordsStandFor}

-- two tables with the same names and rows
same_table : (a b : NamedRows) → a.names ≡ b.names → a.rows ≡ b.rows → a ≡ b
same_table a b names rows = ap (λ names. record { names = names; rows = a.rows }) names ∙ ap (λ rows. record { names = b.names; rows = rows }) rows

-- records stand for one table at most
pub one_table : (records : List (List (List ℕ))) (a b : NamedRows) → RecordsStandFor records a → RecordsStandFor records b → a ≡ b
one_table [] a b x y = absurd x
one_table (header ∷ lines) a b x y = same_table a b (x.1.names ∙ sym y.1.names) (x.1.rows ∙ sym y.1.rows)
