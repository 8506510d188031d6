-- The limit on leaves: every written type and every tuple has at most 8. A tuple is one whose parts have types; of a tuple whose parts have none nothing is asked, since no typing
-- has it.
use Rattle.std.specs.Prelude.{ℕ, ◌≤◌, List, [], ◌∷◌}
use Rattle.syntax.specs.Trees.{Written, basic, tuple_type, Writtens, no_types as no_writtens, ◌∷ʷ◌, Parameter, Operation}
use Rattle.calculus.specs.Syntax.{Ty, Tys, leaves_all, Form, tupling, meas, gate, call, Op, Term, Terms}
use Rattle.calculus.specs.Rules.{Uses, Binding, Scope, Has, has_give, has_done, has_name, has_build, has_bind, has_mut, has_set, has_using, has_if}
use Rattle.calculus.specs.Rules.{Parts, parts_none, parts_more, Under, under_none, under_more}
use Rattle.questions.specs.Types.{as_types}

abbrev pub Few : Tys → Type 0
Few Ts = leaves_all Ts ≤ 8

-- a written type, with the types inside it
abbrev mutual
  pub WrittenFew : Written → Type 0
  WrittenFew (basic p b) = Unit {0}
  WrittenFew (tuple_type p ws) = WrittenFewAll ws × Few (as_types ws)

  pub WrittenFewAll : Writtens → Type 0
  WrittenFewAll no_writtens = Unit {0}
  WrittenFewAll (w ∷ʷ ws) = WrittenFew w × WrittenFewAll ws

abbrev pub ParametersFew : List Parameter → Type 0
ParametersFew [] = Unit {0}
ParametersFew (p ∷ ps) = WrittenFew p.written × ParametersFew ps

abbrev pub OperationsFew : List Operation → Type 0
OperationsFew [] = Unit {0}
OperationsFew (o ∷ os) = (ParametersFew o.parameters × WrittenFew o.result) × OperationsFew os

-- a tuple of parts of these types
abbrev pub Small : Form → Tys → Type 0
Small tupling Ts = Few Ts
Small meas Ts = Unit {0}
Small (gate g) Ts = Unit {0}
Small (call f) Ts = Unit {0}

-- every tuple that a typing has
abbrev mutual
  pub Within : {ops : List Op} {lim : ℕ} {Γ : Scope} {Δ : Uses} {t : Term} {T : Ty} → Has ops lim Γ Δ t T → Type 0
  Within (has_give q s) = Unit {0}
  Within (has_done q s) = Unit {0}
  Within (has_name b g q s) = Unit {0}
  Within (has_build {f = f} Ts ps fits) = WithinParts ps × Small f Ts
  Within (has_bind Δ₁ Δ₂ T Ts d h sp u) = Within h × WithinUnder u
  Within (has_mut Δ₁ Δ₂ T Ts d h nv dup sp u) = Within h × WithinUnder u
  Within (has_set Δ₁ Δ₂ T Ts d h nv sp ms u) = Within h × Within u
  Within (has_using u) = WithinUnder u
  Within (has_if Δ₁ Δ₂ d c h k) = Within c × (Within h × Within k)

  pub WithinParts : {ops : List Op} {lim : ℕ} {Γ : Scope} {Δ : Uses} {ts : Terms} {Ts : Tys} → Parts ops lim Γ Δ ts Ts → Type 0
  WithinParts (parts_none s) = Unit {0}
  WithinParts (parts_more Δ₁ Δ₂ d h ps) = Within h × WithinParts ps

  pub WithinUnder : {ops : List Op} {lim : ℕ} {as_bound : Ty → Binding} {Γ : Scope} {Δ : Uses} {xs : List ℕ} {Ts : Tys} {t : Term} {U : Ty} → Under ops lim as_bound Γ Δ xs Ts t U → Type 0
  WithinUnder (under_none h) = Within h
  WithinUnder (under_more Δ' nw d u) = WithinUnder u
