-- The text about the run of a large input.
use Rattle.std.specs.Prelude.{ℕ, List, ◌++◌, codes, decimal}
use Rattle.load_gen.specs.declared.summary.Summary.{Summary}

-- a line for each number, with its word, and then `end`
abbrev pub summary_text : Summary → List ℕ
summary_text summary =
    codes "number " ++ (decimal summary.number
    ++ (codes "\nrows " ++ (decimal summary.rows
    ++ (codes "\nqueries " ++ (decimal summary.queries
    ++ (codes "\nsets " ++ (decimal summary.sets
    ++ (codes "\nanswered " ++ (decimal summary.answered
    ++ (codes "\nlines " ++ (decimal summary.lines
    ++ (codes "\nranges " ++ (decimal summary.ranges
    ++ codes "\nend\n")))))))))))))
