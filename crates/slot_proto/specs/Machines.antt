-- The object as words on one thread, without its cells: what contracts see of it, and its steps.
use Rattle.std.specs.Prelude.{◌≡◌, ℕ, List}
use Rattle.slot_history.specs.declared.shape.Shape.{Shape}
use Rattle.slot_history.specs.declared.act.Act.{Act}
use Rattle.slot_history.specs.declared.place.Place.{Place}
use Rattle.slot_history.specs.States.{ObjectState}
use Rattle.slot_history.specs.Calls.{Call}
use Rattle.slot_station.specs.declared.log.Logged.{Logged}
use Rattle.slot_station.specs.Log.{calls_of}
use Rattle.one_thread.specs.Stories.{Story, HasPlaces, MayMake, MakesCall, state_in, place_in}
use Rattle.slot_words.specs.declared.address.Address.{Address}
use Rattle.slot_words.specs.Words.{word_at}
use Rattle.slot_words.specs.Steps.{address_of, change_of, answer_of}
use Rattle.slot_words.specs.Laws.{AreWordsOf}

-- what contracts see of a machine: how large the object is, its words and its log
pub record Running : Type 0 where
  pub shape : Shape
  pub words : List ℕ
  pub log : List Logged

-- without the words
abbrev pub story_of : Running → Story
story_of running = record { shape = running.shape; log = running.log }

-- the state that its history leaves
abbrev pub state_now : Running → ObjectState
state_now running = state_in running.shape running.log

-- where a worker is
abbrev pub place_now : Running → ℕ → Place
place_now running w = place_in (story_of running) w

-- the worker made the call
abbrev pub Calls : Running → ℕ → Act → Running → Type 0
Calls old w a new = MakesCall (story_of old) w a (story_of new)

-- the worker w may make the call c, and its step is on the word at this address
pub record IsCallOn (running : Running) (w : ℕ) (c : Call) (address : Address) : Type 0 where
  pub may : MayMake (story_of running) w c
  pub on : address ≡ address_of w c (place_now running w)

-- one atomic step: the call of a worker, the address of its word, what the word becomes, and the
-- call with its answer
pub record WordStep : Type 0 where
  pub worker : ℕ
  pub call : Call
  pub address : Address
  pub new : ℕ
  pub act : Act

-- by what the word holds, this is the step of its call
pub record IsStepOf (running : Running) (step : WordStep) : Type 0 where
  pub call : IsCallOn running step.worker step.call step.address
  pub changes : step.new ≡ change_of step.call (place_now running step.worker)
      (word_at running.shape running.words step.address)
  pub reads : step.act ≡ answer_of step.call (place_now running step.worker)
      (word_at running.shape running.words step.address)

-- what is kept at run time is what the legal history of the log leaves
pub record IsMachine (d : Shape) (words : List ℕ) (places : List Place)
    (log : List Logged) : Type 0 where
  pub words_are : AreWordsOf d (calls_of log) words
  pub places_are : HasPlaces d places (state_in d log).places
