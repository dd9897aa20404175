-- The text that says why a query can't be answered over its tables.
use Rattle.std.specs.Prelude.{ℕ, List, ◌++◌, codes}
use Rattle.plan_ast.specs.declared.refusals.PlanRefusal.{PlanRefusal}
use Rattle.plan_ast.specs.declared.refusals.PlanRefusal.TheVariants.{UnknownTable, UnknownColumn}
use Rattle.plan_ast.specs.declared.refusals.PlanRefusal.TheVariants.{OutOfMemory}

-- which name isn't there
abbrev pub plan_refusal_text : PlanRefusal → List ℕ
plan_refusal_text (UnknownTable name) = codes "unknown table " ++ name
plan_refusal_text (UnknownColumn name) = codes "unknown column " ++ name
plan_refusal_text OutOfMemory = codes "out of memory"
