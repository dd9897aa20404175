use Rattle.std.proofs.Common.{inl, inr, refl}
use Rattle.csv.specs.declared.parser.State.TheVariants as st
use Rattle.csv_tables.proofs.scan.in_field.Goals as goal

pub returns-in-13 : goal.returns-in-13
returns-in-13 c = elim c.in-13.is [ inl feed ↦ (st.StartRecord, rw feed refl) | inr back ↦ (st.AfterCr, rw back refl) ]
