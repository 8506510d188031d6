-- What a run tells of itself: its need, the steps taken, and the value of the whole once it has ended.
use Rattle.std.specs.Prelude.{ℕ, Bool, is_some, List, [], ◌∷◌, Some, None, Option, vec_items}
use Rattle.runs.specs.declared.state.Focus.{Focus}
use Rattle.runs.specs.declared.state.Focus.TheVariants.{Entering, Finished}
use Rattle.runs.specs.declared.state.Frame.{Frame}
use Rattle.need.specs.declared.Need.{Need}
use Rattle.runs.specs.declared.run.Run.{Run}
use Rattle.runs.specs.declared.state.State.{State}
use Rattle.runs.specs.declared.value.Value.{Value}

-- a finished part is the whole where no node waits for it
abbrev pub whole : Focus → List Frame → Option Value
whole (Entering at) fs = None
whole (Finished v) [] = Some v
whole (Finished v) (f ∷ fs) = None

abbrev pub ended_value : State → Option Value
ended_value s = whole s.focus (vec_items s.frames)

abbrev pub need_told : Run → Need
need_told r = r.need

abbrev pub taken_told : Run → ℕ
taken_told r = r.taken

abbrev pub ended_told : Run → Bool
ended_told r = is_some (ended_value r.state)
