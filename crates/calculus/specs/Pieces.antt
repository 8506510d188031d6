-- Net and peak from the pieces of a term alone: the net adds up over the pieces, and a call's is that of its operation's declared types.
use Rattle.std.specs.Prelude.{◌≡◌, List, ℕ, ℤ, pos, negsuc, ◌+ℤ◌, ◌-ℤ◌, length}
use Rattle.std.proofs.Math.Option.{Option, none, some}
use Rattle.calculus.specs.Syntax.{Ty, qbit_leaves, qbit_leaves_all, names, Form, tupling, meas, gate, call, Op}
use Rattle.calculus.specs.Syntax.{Term, give, done, name, build, bind, mut, set, using_in, if_else, Terms, no_terms, ◌∷ˢ◌}
use Rattle.calculus.specs.Rules.{Uses, nothing, Scope, nowhere, nth, Has, Well}
use Rattle.calculus.specs.Need.{by_op}
use Rattle.calculus.specs.Peak.{maxℤ, net, body_peak, peak, Peaks, Regular}
use Rattle.calculus.specs.Runs.{most_live}

abbrev pub op_net : Option Op → ℤ
op_net none = pos 0
op_net (some op) = pos (qbit_leaves op.result) -ℤ pos (qbit_leaves_all op.types)

-- what a form adds after its parts
abbrev pub form_net : List Op → Form → ℤ
form_net ops tupling = pos 0
form_net ops meas = negsuc 0
form_net ops (gate g) = pos 0
form_net ops (call f) = op_net (nth ops f)

abbrev mutual
  pub piece_net : List Op → Term → ℤ
  piece_net ops (give p v) = pos 0
  piece_net ops (done v) = pos 0
  piece_net ops (name p n) = pos 0
  piece_net ops (build p f ts) = piece_net_all ops ts +ℤ form_net ops f
  piece_net ops (bind p xs e t) = piece_net ops e +ℤ piece_net ops t
  piece_net ops (mut p xs e t) = piece_net ops e +ℤ piece_net ops t
  piece_net ops (set p ns e t) = piece_net ops e +ℤ piece_net ops t
  piece_net ops (using_in p xs t) = pos (length (names xs)) +ℤ piece_net ops t
  piece_net ops (if_else p c t u) = piece_net ops c +ℤ piece_net ops t

  pub piece_net_all : List Op → Terms → ℤ
  piece_net_all ops no_terms = pos 0
  piece_net_all ops (t ∷ˢ ts) = piece_net ops t +ℤ piece_net_all ops ts

-- P gives the peak of each body
abbrev mutual
  pub piece_peak : List Op → (ℕ → ℤ) → Term → ℤ
  piece_peak ops P (give p v) = pos 0
  piece_peak ops P (done v) = pos 0
  piece_peak ops P (name p n) = pos 0
  piece_peak ops P (build p f ts) = maxℤ (pos 0) (piece_peak_all ops P f (pos 0) ts)
  piece_peak ops P (bind p xs e t) = maxℤ (pos 0) (maxℤ (piece_peak ops P e) (piece_net ops e +ℤ piece_peak ops P t))
  piece_peak ops P (mut p xs e t) = maxℤ (pos 0) (maxℤ (piece_peak ops P e) (piece_net ops e +ℤ piece_peak ops P t))
  piece_peak ops P (set p ns e t) = maxℤ (pos 0) (maxℤ (piece_peak ops P e) (piece_net ops e +ℤ piece_peak ops P t))
  piece_peak ops P (using_in p xs t) = pos (length (names xs)) +ℤ piece_peak ops P t
  piece_peak ops P (if_else p c t u) = maxℤ (pos 0) (maxℤ (piece_peak ops P c) (piece_net ops c +ℤ maxℤ (piece_peak ops P t) (piece_peak ops P u)))

  -- of the parts, where the nets before them come to n, and of the body
  pub piece_peak_all : List Op → (ℕ → ℤ) → Form → ℤ → Terms → ℤ
  piece_peak_all ops P f n no_terms = body_peak P f n
  piece_peak_all ops P f n (t ∷ˢ ts) = maxℤ (n +ℤ piece_peak ops P t) (piece_peak_all ops P f (n +ℤ piece_net ops t) ts)

-- the peaks of the bodies, one operation after the other
abbrev pub piece_peaks : List Op → ℕ → ℤ
piece_peaks ops = by_op (pos 0) (λ P op. piece_peak ops P op.body) ops

abbrev pub NetByPieces : Type 0
NetByPieces = (ops : List Op) (lim : ℕ) (Γ : Scope) (Δ : Uses) (t : Term) (T : Ty) → Regular Γ → Has ops lim Γ Δ t T → piece_net ops t ≡ net Γ t T

abbrev pub PeakByPieces : Type 0
PeakByPieces = (ops : List Op) (P : ℕ → ℤ) (lim : ℕ) (Γ : Scope) (Δ : Uses) (t : Term) (T : Ty) → Regular Γ → (d : Has ops lim Γ Δ t T) → piece_peak ops P t ≡ peak ops lim P d

abbrev pub PiecesFound : Type 0
PiecesFound = (ops : List Op) (well : Well ops) → Peaks ops well (piece_peaks ops)

-- so found, the peak of a listing is the most handles that are ever live
abbrev pub NeedByPieces : Type 0
NeedByPieces = (ops : List Op) → Well ops → (lim : ℕ) (t : Term) (T : Ty) → Has ops lim nowhere nothing t T → piece_peak ops (piece_peaks ops) t ≡ pos (most_live ops 0 t)
