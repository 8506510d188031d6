-- A step keeps the type, and the linear names of what is left change as the live handles do.
use mathlib.Core.Path.{◌≡◌, refl, sym, ◌∙◌, ap, subst}
use mathlib.Core.List.{List, [], ◌∷◌, map}
use mathlib.Core.Bool.{Bool, true, false, cond}
use mathlib.Core.Option.{some}
use Prim.Native.Nat.{ℕ, zero, suc, ◌+◌}
use native.Mathlib.Omega.{arith}
use lib.ListN.{length}
use Rattle.machine.specs.Orders.{width, handle_list}
use Rattle.machine.specs.Model.{distinct}
use Rattle.machine.specs.declared.order.Order.TheVariants.{Prepared, Applied, Measured}
use Rattle.calculus.specs.Syntax.{Ty, bit, qbit, tuple, Tys, ◌∷ᵗ◌, some_linear, Duplicable, Name, var, entry, Value, Values, no_values, ◌∷ᵛ◌, type_of, types_of, Pattern, one, several}
use Rattle.calculus.specs.Syntax.{names, Form, Place, Term, Terms, Op}
use Rattle.calculus.specs.Rules.{Uses, nothing, Same, Divides, spent, held, held_all, Binding, fixed, settable, type, Scope, nowhere, NoVar, Spread, qbits, together, Fits, MaySet, Has}
use Rattle.calculus.specs.Rules.{has_give, has_done, has_name, has_build, has_bind, has_mut, has_set, has_using, has_if, Parts, parts_none, parts_more, Under, under_none, under_more, Well}
use Rattle.calculus.specs.Laws.{Plain, Change, Preservation}
use Rattle.calculus.specs.Steps.{by_entry, Each, EachPart, Clear, Table, written, around, Event, prepares, handle_values, handle_names, gained, lost, named, InWidth, AllDone, none_left}
use Rattle.calculus.specs.Steps.{one_done, joined, Acts, acts_tuple, acts_meas, acts_gate, acts_call, Taken, Step, step_give, step_name, step_parts, step_build, step_bind_in, step_bind}
use Rattle.calculus.specs.Steps.{step_mut_in, step_mut, step_set_in, step_set, step_using, step_if_in, step_if, StepPart, step_first, step_later}
use Rattle.calculus.proofs.Names.{never, held_dup}
use Rattle.calculus.proofs.Tables.{grown_written, how_many, may_written, grown_set, plain_set, plain_written, plain_types, spread_plain, plain_spread}
use Rattle.calculus.proofs.Filling.{fill_all, fill_values, fills_entries}
use Rattle.calculus.proofs.Growth.{Grown, Any, grown_same, may_grow, grow, grow_parts, grow_under, widen_under}

pub record Kept (ops : List Op) (lim : ℕ) (μ μ' : Table) (es : List ℕ) (Δ : Uses) (ev : Event) (t' : Term) (T : Ty) : Type 0 where
  pub uses : Uses
  pub has : Has ops lim (around μ') uses t' T
  pub changed : Change Δ uses ev
  pub grown : Grown (Clear es) (around μ) (around μ')
  pub plain : Plain μ'

pub record KeptParts (ops : List Op) (lim : ℕ) (μ μ' : Table) (es : List ℕ) (Δ : Uses) (ev : Event) (ts' : Terms) (Ts : Tys) : Type 0 where
  pub uses : Uses
  pub has : Parts ops lim (around μ') uses ts' Ts
  pub changed : Change Δ uses ev
  pub grown : Grown (Clear es) (around μ) (around μ')
  pub plain : Plain μ'

-- a part's change is the whole's
left : (Δ Δ₁ Δ₂ : Uses) {Δ₁' : Uses} {ev : Event} → Divides Δ Δ₁ Δ₂ → Change Δ₁ Δ₁' ev → Change Δ (λ n. Δ₁' n + Δ₂ n) ev
left Δ Δ₁ Δ₂ d c = record { change = λ n. omega (arith, d n, c.change n); live = λ n. omega (arith, d n, c.live n); in_width = c.in_width }

right : (Δ Δ₁ Δ₂ : Uses) {Δ₂' : Uses} {ev : Event} → Divides Δ Δ₁ Δ₂ → Change Δ₂ Δ₂' ev → Change Δ (λ n. Δ₁ n + Δ₂' n) ev
right Δ Δ₁ Δ₂ d c = record { change = λ n. omega (arith, d n, c.change n); live = λ n. omega (arith, d n, c.live n); in_width = c.in_width }

quiet : {Δ Δ' : Uses} → Same Δ' Δ → Change Δ Δ' []
quiet s = record { change = λ n. omega (arith, s n); live = λ n. omega arith; in_width = tt }

pub gained_var : (ev : Event) (x : ℕ) → gained ev (var x) ≡ 0
gained_var [] x = refl
gained_var (Prepared h ∷ os) x = omega (arith, gained_var os x)
gained_var (Applied g hs ∷ os) x = gained_var os x
gained_var (Measured h b ∷ os) x = gained_var os x

clean : {Δ Δ' : Uses} {ev : Event} → Change Δ Δ' ev → NoVar Δ → NoVar Δ'
clean {ev = ev} c nv x = omega (arith, c.change (var x), nv x, gained_var ev x)

-- handles as values
pub handle_types : (hs : List ℕ) → types_of (handle_values hs) ≡ qbits (length hs)
handle_types [] = refl
handle_types (h ∷ hs) = ap (λ (Ts : Tys). qbit ∷ᵗ Ts) (handle_types hs)

pub handle_held : (hs : List ℕ) (n : Name) → held_all (handle_values hs) n ≡ handle_names hs n
handle_held [] n = refl
handle_held (h ∷ hs) n = omega (arith, handle_held hs n)

prepares_gain : (hs : List ℕ) (n : Name) → gained (prepares hs) n ≡ handle_names hs n
prepares_gain [] n = refl
prepares_gain (h ∷ hs) n = omega (arith, prepares_gain hs n)

prepares_lose : (hs : List ℕ) (n : Name) → (lost (prepares hs) n ≡ 0) × (named (prepares hs) n ≡ 0)
prepares_lose [] n = (refl, refl)
prepares_lose (h ∷ hs) n = prepares_lose hs n

prepares_width : (hs : List ℕ) → InWidth (prepares hs)
prepares_width [] = tt
prepares_width (h ∷ hs) = prepares_width hs

qbits_same : (i k : ℕ) → qbits i ≡ qbits k → i ≡ k
qbits_same zero zero q = refl
qbits_same zero (suc k) q = never cc
qbits_same (suc i) zero q = never cc
qbits_same (suc i) (suc k) q = ap suc (qbits_same i k (tail (qbits i) (qbits k) q))
  where
    tail : (Ts Us : Tys) → qbit ∷ᵗ Ts ≡ qbit ∷ᵗ Us → Ts ≡ Us
    tail Ts Us q = cc

-- a form whose parts are values
pub all_done : {ops : List Op} {lim : ℕ} {Γ : Scope} {ts : Terms} {vs : Values} → AllDone ts vs → {Δ : Uses} {Ts : Tys} → Parts ops lim Γ Δ ts Ts → (types_of vs ≡ Ts) × Same Δ (held_all vs)
all_done none_left (parts_none s) = (refl, s)
all_done (one_done {v = v} {vs = vs} a) (parts_more Δ₁ Δ₂ d (has_done q s) ps) =
    let r = all_done a ps in
    let first : types_of vs ≡ _ = r.0 in
    (cc, λ n. omega (arith, d n, s n, r.1 n))

joined_type : (vs : Values) → type_of (joined vs) ≡ together (types_of vs)
joined_type no_values = refl
joined_type (v ∷ᵛ no_values) = refl
joined_type (v ∷ᵛ (w ∷ᵛ vs)) = refl

joined_held : (vs : Values) (n : Name) → held (joined vs) n ≡ held_all vs n
joined_held no_values n = refl
joined_held (v ∷ᵛ no_values) n = omega arith
joined_held (v ∷ᵛ (w ∷ᵛ vs)) n = refl

grown_nowhere : (μ : Table) → Grown Any nowhere (around μ)
grown_nowhere μ = record { keeps = λ n b q h. never cc; news = λ y h. refl }

acted : {ops : List Op} {lim : ℕ} → Well ops → {f : Form} {vs : Values} {ev : Event} {t : Term} → Acts ops f vs ev t → (μ : Table) (Δ : Uses) (Ts : Tys) (T : Ty) →
    Plain μ → Fits ops lim f Ts T → types_of vs ≡ Ts → Same Δ (held_all vs) → Kept ops lim μ μ [] Δ ev t T
acted well (acts_tuple {vs}) μ Δ Ts T pl fit q s =
    record { uses = Δ; has = has_done (fit.0 ∙ ap tuple (sym q)) s; changed = quiet (λ n. refl); grown = grown_same _; plain = pl }
acted well acts_meas μ Δ Ts T pl fit q s = record {
  uses = nothing;
  has = has_done fit.1 (λ n. refl);
  changed = record { change = λ n. omega (arith, s n); live = λ n. omega (arith, s n); in_width = tt };
  grown = grown_same _;
  plain = pl;
}
acted well (acts_gate {g = g} {vs = vs} hs e) μ Δ Ts T pl fit q s = record {
  uses = Δ;
  has = has_done (fit.1 ∙ ap together (sym q) ∙ sym (joined_type vs)) (λ n. s n ∙ sym (joined_held vs n));
  changed = record {
    change = λ n. refl;
    live = λ n. omega (arith, s n, ap (λ (ws : Values). held_all ws n) e, handle_held (handle_list hs) n);
    in_width = (qbits_same (length (handle_list hs)) (width g) (sym (handle_types (handle_list hs)) ∙ ap types_of (sym e) ∙ q ∙ fit.0), tt);
  };
  grown = grown_same _;
  plain = pl;
}
acted {ops} {lim} well (acts_call {f = f} {vs = vs} op at_f) μ Δ Ts T pl fit q s =
    let same : fit.0 ≡ op = cc in
    let body : Under ops lim fixed (around μ) nothing op.params op.types op.body op.result = widen_under {lim = f} (omega (arith, fit.1)) (grown_nowhere μ) (well f op at_f) in
    record {
      uses = Δ;
      has = rw (fit.4, same) (fill_values body vs (q ∙ fit.3 ∙ ap (λ (o : Op). o.types) same) Δ (λ n. omega (arith, s n)));
      changed = quiet (λ n. refl);
      grown = grown_same _;
      plain = pl;
    }

pub taken : {N : Type 0} (xs : Pattern N) (v : Value) (vs : Values) (T : Ty) (Ts : Tys) → Taken xs v vs → Spread xs T Ts → T ≡ type_of v → (types_of vs ≡ Ts) × ((n : Name) → held_all vs n ≡ held v n)
taken (one x) v vs T Ts k sp q = (ap types_of k ∙ (cc), λ n. rw k (omega arith))
taken (several xs) v vs T Ts k sp q = let w : type_of v ≡ tuple (types_of vs) = ap type_of k in (cc, λ n. rw k)

either : {ops : List Op} {lim : ℕ} {Γ : Scope} {Δ : Uses} {t u : Term} {U : Ty} → (b : Bool) → Has ops lim Γ Δ t U → Has ops lim Γ Δ u U → Has ops lim Γ Δ (cond b t u) U
either true h k = h
either false h k = k

-- an entry holds no handle
read : (v : Value) (b : Binding) (T : Ty) (Δ : Uses) (n : Name) → Duplicable (type_of v) → some (settable (type_of v)) ≡ some b → T ≡ type b → Same Δ (spent T n) →
    (T ≡ type_of v) × Same Δ (held v)
read v b T Δ n pl h q s = let t : T ≡ type_of v = q ∙ ap type (sym (inj (settable (type_of v)) b h)) in (t, λ m. s m ∙ rw (t, pl) (sym (held_dup v m pl)))
  where
    inj : (c d : Binding) → some c ≡ some d → c ≡ d
    inj c d h = cc

under_length : {ops : List Op} {lim : ℕ} {as_bound : Ty → Binding} {Γ : Scope} {Δ : Uses} {xs : List ℕ} {Ts : Tys} {t : Term} {U : Ty} → Under ops lim as_bound Γ Δ xs Ts t U →
    length xs ≡ how_many Ts
under_length (under_none h) = refl
under_length (under_more Δ' new d u) = ap suc (under_length u)

module _ (ops : List Op) (lim : ℕ) (well : Well ops) where
  mutual
    pub keep : {t t' : Term} {μ μ' : Table} {p : Place} {es : List ℕ} {ev : Event} → Step ops t μ p es ev t' μ' → (Δ : Uses) (T : Ty) →
        Plain μ → distinct es ≡ true → Each (Clear es) t → Has ops lim (around μ) Δ t T → Kept ops lim μ μ' es Δ ev t' T
    keep step_give Δ T pl a c (has_give q s) = record { uses = Δ; has = has_done q s; changed = quiet (λ n. refl); grown = grown_same _; plain = pl }
    keep (step_name {e = e} {μ = μ}) Δ T pl a c (has_name b h q s) =
        let r = read (μ e) b T Δ (entry e) (pl e) h q s in
        record { uses = Δ; has = has_done r.0 r.1; changed = quiet (λ n. refl); grown = grown_same _; plain = pl }
    keep (step_parts s) Δ T pl a c (has_build Ts ps fit) =
        let k = keep_parts s Δ Ts pl a c ps in
        record { uses = k.uses; has = has_build Ts k.has fit; changed = k.changed; grown = k.grown; plain = k.plain }
    keep (step_build {μ = μ} vs d act) Δ T pl a c (has_build Ts ps fit) =
        let r = all_done d ps in acted well act μ Δ Ts T pl fit r.0 r.1
    keep (step_bind_in {μ' = μ'} {es = es} s) Δ U pl a c (has_bind Δ₁ Δ₂ T Ts d h sp u) =
        let k = keep s Δ₁ T pl a c.0 h in
        record {
          uses = λ n. k.uses n + Δ₂ n;
          has = has_bind k.uses Δ₂ T Ts (λ n. refl) k.has sp (grow_under ops lim lim (omega arith) (Clear es) u c.1 (around μ') k.grown);
          changed = left Δ Δ₁ Δ₂ d k.changed;
          grown = k.grown;
          plain = k.plain;
        }
    keep (step_bind {xs = xs} {v = v} vs tk) Δ U pl a c (has_bind Δ₁ Δ₂ T Ts d (has_done q s) sp u) =
        let r = taken xs v vs T Ts tk sp q in
        record { uses = Δ; has = fill_values u vs r.0 Δ (λ n. omega (arith, d n, s n, r.1 n)); changed = quiet (λ n. refl); grown = grown_same _; plain = pl }
    keep (step_mut_in {μ' = μ'} {es = es} s) Δ U pl a c (has_mut Δ₁ Δ₂ T Ts d h nv dup sp u) =
        let k = keep s Δ₁ T pl a c.0 h in
        record {
          uses = λ n. k.uses n + Δ₂ n;
          has = has_mut k.uses Δ₂ T Ts (λ n. refl) k.has (clean k.changed nv) dup sp (grow_under ops lim lim (omega arith) (Clear es) u c.1 (around μ') k.grown);
          changed = left Δ Δ₁ Δ₂ d k.changed;
          grown = k.grown;
          plain = k.plain;
        }
    keep (step_mut {xs = xs} {v = v} {μ = μ} {es = es} vs tk len) Δ U pl a c (has_mut Δ₁ Δ₂ T Ts d (has_done q s) nv dup sp u) =
        let r = taken xs v vs T Ts tk sp q in
        let flat = plain_spread xs T Ts sp dup in
        let grown = grown_written es vs μ in
        let may = may_written es vs μ (omega (arith, len, under_length u, ap how_many r.0)) a in
        record {
          uses = Δ;
          has = fill_all (grow_under ops lim lim (omega arith) (Clear es) u c.1 (around (written es vs μ)) grown) (map by_entry es) nothing
              (fills_entries es Ts flat (subst (λ (Us : Tys). MaySet (around (written es vs μ)) (map entry es) Us) r.0 may))
              Δ (λ n. omega (arith, d n, s n, held_dup v n (rw q at dup)));
          changed = quiet (λ n. refl);
          grown = grown;
          plain = plain_written es vs μ pl (ap some_linear r.0 ∙ flat);
        }
    keep (step_set_in {μ' = μ'} {es = es} s) Δ U pl a c (has_set Δ₁ Δ₂ T Ts d h nv sp m u) =
        let k = keep s Δ₁ T pl a c.1 h in
        record {
          uses = λ n. k.uses n + Δ₂ n;
          has = has_set k.uses Δ₂ T Ts (λ n. refl) k.has (clean k.changed nv) sp (may_grow k.grown c.0 m)
              (grow ops lim lim (omega arith) (Clear es) u c.2 (around μ') k.grown);
          changed = left Δ Δ₁ Δ₂ d k.changed;
          grown = k.grown;
          plain = k.plain;
        }
    keep (step_set {ns = ns} {v = v} {μ = μ} vs tk es at_es) Δ U pl a c (has_set Δ₁ Δ₂ T Ts d (has_done q s) nv sp m u) =
        let r = taken ns v vs T Ts tk sp q in
        let dup = spread_plain ns T Ts sp (plain_types μ (names ns) Ts pl m) in
        let may = subst (λ (l : List Name). MaySet (around μ) l Ts) at_es m in
        record {
          uses = Δ₂;
          has = grow ops lim lim (omega arith) (Clear []) u c.2 (around (written es vs μ)) (grown_set es vs μ may r.0);
          changed = quiet (λ n. omega (arith, d n, s n, held_dup v n (rw q at dup)));
          grown = grown_set es vs μ may r.0;
          plain = plain_set es vs μ pl may r.0;
        }
    keep (step_using hs len) Δ U pl a c (has_using u) =
        let Δ' : Uses = λ n. Δ n + held_all (handle_values hs) n in
        record {
          uses = Δ';
          has = fill_values u (handle_values hs) (handle_types hs ∙ ap qbits len) Δ' (λ n. refl);
          changed = record {
            change = λ n. omega (arith, prepares_gain hs n, (prepares_lose hs n).0, handle_held hs n);
            live = λ n. omega (arith, (prepares_lose hs n).1);
            in_width = prepares_width hs;
          };
          grown = grown_same _;
          plain = pl;
        }
    keep (step_if_in {μ' = μ'} {es = es} s) Δ U pl a c (has_if Δ₁ Δ₂ d h u u') =
        let k = keep s Δ₁ bit pl a c.0 h in
        record {
          uses = λ n. k.uses n + Δ₂ n;
          has = has_if k.uses Δ₂ (λ n. refl) k.has (grow ops lim lim (omega arith) (Clear es) u c.1 (around μ') k.grown)
              (grow ops lim lim (omega arith) (Clear es) u' c.2 (around μ') k.grown);
          changed = left Δ Δ₁ Δ₂ d k.changed;
          grown = k.grown;
          plain = k.plain;
        }
    keep (step_if {b = b}) Δ U pl a c (has_if Δ₁ Δ₂ d (has_done q s) u u') =
        record { uses = Δ₂; has = either b u u'; changed = quiet (λ n. omega (arith, d n, s n)); grown = grown_same _; plain = pl }

    pub keep_parts : {ts ts' : Terms} {μ μ' : Table} {p : Place} {es : List ℕ} {ev : Event} → StepPart ops ts μ p es ev ts' μ' → (Δ : Uses) (Ts : Tys) →
        Plain μ → distinct es ≡ true → EachPart (Clear es) ts → Parts ops lim (around μ) Δ ts Ts → KeptParts ops lim μ μ' es Δ ev ts' Ts
    keep_parts (step_first {μ' = μ'} {es = es} s) Δ Ts pl a c (parts_more {T = T} Δ₁ Δ₂ d h ps) =
        let k = keep s Δ₁ T pl a c.0 h in
        record {
          uses = λ n. k.uses n + Δ₂ n;
          has = parts_more k.uses Δ₂ (λ n. refl) k.has (grow_parts ops lim lim (omega arith) (Clear es) ps c.1 (around μ') k.grown);
          changed = left Δ Δ₁ Δ₂ d k.changed;
          grown = k.grown;
          plain = k.plain;
        }
    keep_parts (step_later {μ' = μ'} {es = es} s) Δ Ts pl a c (parts_more {Ts = Us} Δ₁ Δ₂ d h ps) =
        let k = keep_parts s Δ₂ Us pl a c.1 ps in
        record {
          uses = λ n. Δ₁ n + k.uses n;
          has = parts_more Δ₁ k.uses (λ n. refl) (grow ops lim lim (omega arith) (Clear es) h c.0 (around μ') k.grown) k.has;
          changed = right Δ Δ₁ Δ₂ d k.changed;
          grown = k.grown;
          plain = k.plain;
        }

pub preservation : Preservation
preservation ops lim well t t' μ μ' p ev Δ T pl h w =
    let k = keep ops lim well w.step Δ T pl w.fresh.apart w.fresh.unnamed h in
    record {
      uses = k.uses;
      typed = k.has;
      changed = k.changed;
      entries = λ e c. inj (type_of (μ' e)) (type_of (μ e)) (k.grown.keeps (entry e) (settable (type_of (μ e))) c refl);
      plain = k.plain;
    }
  where
    inj : (A B : Ty) → some (settable A) ≡ some (settable B) → A ≡ B
    inj A B h = cc
