-- A history over some findings is one over any findings.
use Rattle.std.proofs.Common.{ℕ, List, Result}
use Rattle.need.specs.declared.Need.{Need}
use Rattle.faults.specs.declared.fault.Fault.{Fault}
use Rattle.histories.specs.Views.{Listing, View, Moment}
use Rattle.histories.specs.Calls.{Loads, not_empty, too_long, no_memory, refused, accepted, Call, load, advance, clear, Does}
use Rattle.histories.specs.Histories.{History, opened, then}
use Rattle.histories.specs.Laws.{Any}

module _ (Verdict : List ℕ → ℕ → Result Listing Fault → Type 0) where
  loads_any : (bytes : List ℕ) (v v' : View) (r : Result Need Fault) → Loads Verdict bytes v v' r → Loads Any bytes v v' r
  loads_any bytes v v' r (not_empty g a q e) = not_empty g a q e
  loads_any bytes v v' r (too_long a b q e) = too_long a b q e
  loads_any bytes v v' r (no_memory a b q e) = no_memory a b q e
  loads_any bytes v v' r (refused f a b d q e) = refused f a b tt q e
  loads_any bytes v v' r (accepted l a b d f q e) = accepted l a b tt f q e

  pub does_any : (call : Call) (v : View) (xs : List Moment) (v' : View) → Does Verdict call v xs v' → Does Any call v xs v'
  does_any (load bytes r) v xs v' d = (loads_any bytes v v' r d.0, d.1)
  does_any (advance count r) v xs v' d = d
  does_any clear v xs v' d = d

  pub history_any : (opening n k : ℕ) (v : View) → History Verdict opening n k v → History Any opening n k v
  history_any opening n k v (opened _ _ m _ c cl none z y) = opened n k m v c cl none z y
  history_any opening n k v (then n₀ _ k₀ _ v₀ _ call xs h d e f) = then n₀ n k₀ k v₀ v call xs (history_any opening n₀ k₀ v₀ h) (does_any call v₀ xs v d) e f
