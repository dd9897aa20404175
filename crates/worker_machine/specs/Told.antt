-- What a worker has told by its moves.
use Rattle.std.specs.Prelude.{List}
use Rattle.turn_model.specs.Moves.{Move}
use Rattle.turn_model.specs.Endings.{HasRoom, work_by}
use Rattle.turn_model.specs.Tellings.{HasTold}
use Rattle.worker_machine.specs.Loads.{model_desk}
use Rattle.worker_machine.specs.Telling.{telling_of}
use Rattle.worker_machine.specs.Keeps.{HasMade, Standing}

-- ---- the law, as the function of module `laws` states it

abbrev pub MadeIsTold : Type 0
MadeIsTold = (at : Standing) (ms : List Move) → HasMade at ms
    → HasRoom (model_desk at.desk) (work_by (model_desk at.desk) ms)
    → HasTold (model_desk at.desk) at.trail ms (telling_of at.core at.phase)
