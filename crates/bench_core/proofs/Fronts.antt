-- A text that is copied to the front leaves the rest.
use Rattle.std.proofs.Common.{◌≡◌, ℕ, List, length, drop, Ok, Err, Result, sym, ap, ◌∙◌}
use Rattle.std.proofs.lemmas.List.{drop_at}
use Rattle.faults.specs.declared.fault.Fault.{Fault}
use Rattle.bench_core.specs.Buffers.{Copied, Fronted}

pub fronted : (text before after : List ℕ) (r : Result ℕ Fault) → Copied text before after r → Fronted before after r
fronted text before after (Ok n) h = (h.1, ap (drop n) h.2 ∙ drop_at text (drop n before) n (sym_length h))
  where
    sym_length : Copied text before after (Ok n) → length text ≡ n
    sym_length k = sym k.0
fronted text before after (Err e) h = h.2
