-- The members of an object of the format. Each member stands in one list with both directions: how
-- it is read, and what is written for it.
use Rattle.std.specs.Prelude.{ℕ, List, [], ◌∷◌, ◌++◌, map, Ok}
use Rattle.serde_json.specs.Data.{Data, Members, array, member, no_members, object, put}
use Rattle.serde_json.specs.View.{items_of}
use Rattle.script_json.specs.Forms.{Form, Reading, ◌>>=◌, ◌>>◌, object_of, optional, required}

-- a member: its key, the form of the object for it, and what is written for it
pub record Field (Source Value : Type 0) : Type 0 where
  pub key : List ℕ
  pub reads : Form Value
  pub writes : Source → Data

-- a member that must be there
abbrev pub must : {Source Value : Type 0} → List ℕ → Form Value → (Source → Data)
    → Field Source Value
must key form written =
    record { key = key; reads = λ value. required key form value; writes = written }

-- a member that has a default, and is written even so
abbrev pub may : {Source Value : Type 0} → List ℕ → Value → Form Value → (Source → Data)
    → Field Source Value
may key default form written =
    record { key = key; reads = λ value. optional key default form value; writes = written }

-- the members of an object, or the first of them: their keys; how they are read, in this order, on
-- the way to a `Made`; and how they are written, in the order of their keys' bytes
pub record Layout (Source Made Rest : Type 0) : Type 0 where
  pub keys : List (List ℕ)
  pub reads : Data → (Rest → Reading Made) → Reading Made
  pub writes : Source → Members

-- no member yet of what is built by a function from the values of all members
abbrev pub built_by : {Source Made Rest : Type 0} → Rest → Layout Source Made Rest
built_by build = record {
  keys = [];
  reads = λ value next. next build;
  writes = λ source. no_members;
}

-- one member more
infixl 10 ◌&◌
abbrev pub ◌&◌ : {Source Made Value Rest : Type 0}
    → Layout Source Made (Value → Rest) → Field Source Value → Layout Source Made Rest
◌&◌ before field = record {
  keys = before.keys ++ field.key ∷ [];
  reads = λ value next. before.reads value (λ build. field.reads value >>= λ a. next (build a));
  writes = λ source. put field.key (field.writes source) (before.writes source);
}

-- an object with these members and no other
abbrev pub reads_object : {Source Made : Type 0} → Layout Source Made Made → Form Made
reads_object members value = object_of members.keys value >> members.reads value (λ made. Ok made)

-- the object that is written with these members
abbrev pub written_object : {Source Made : Type 0} → Layout Source Made Made → Source → Data
written_object members source = object (members.writes source)

-- an array of what is written for each
abbrev pub array_with : {A : Type 0} → (A → Data) → List A → Data
array_with value items = array (items_of (map value items))

-- an object with one member
abbrev pub object_with : List ℕ → Data → Data
object_with key value = object (member key value no_members)
