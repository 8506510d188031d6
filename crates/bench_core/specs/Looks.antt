-- What a bench tells of a run that is loaded, and of none.
use Rattle.std.specs.Prelude.{ℕ, Bool, false, Some, None, Option}
use Rattle.need.specs.declared.Need.{Need}
use Rattle.runs.specs.declared.run.Run.{Run}
use Rattle.runs.specs.Runs.{need_told, taken_told, ended_told}

abbrev pub need_loaded : Option Run → Option Need
need_loaded None = None
need_loaded (Some r) = Some (need_told r)

abbrev pub taken_loaded : Option Run → Option ℕ
taken_loaded None = None
taken_loaded (Some r) = Some (taken_told r)

abbrev pub ended_loaded : Option Run → Bool
ended_loaded None = false
ended_loaded (Some r) = ended_told r
