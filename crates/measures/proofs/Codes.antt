-- What is mixed into a cell is what the cell says.
use mathlib.Core.Path.{◌≡◌, refl, ap, ap₂, ◌∙◌}
use Prim.Native.Nat.{ℕ, ◌-◌, ◌/◌, ◌%◌, ◌≤◌, ◌<◌}
use native.Mathlib.Omega.{arith}
use borrow.Author.Tests.{eq-eqb, ne_eqb, lt-ltb, le-ltb}
use Rattle.automata.specs.Runs.{Len, len, endless}
use Rattle.chosen.specs.declared.First.{First}
use Rattle.chosen.specs.declared.First.TheVariants.{Unsettled, End, Event}
use Rattle.scratch.specs.Scratch.{len_cell}
use Rattle.measures.specs.Measures.{settled_at, cell_of, begin_in, saying, measure_in}

-- ---- what a cell says

pub begin_end : (e : ℕ) → e ≡ 32 → begin_in e ≡ End
unfolding begin_in
begin_end e h = rw (eq-eqb e 32 h)

pub begin_event : (e : ℕ) → (e ≡ 32 → ⊥) → begin_in e ≡ Event e
unfolding begin_in
begin_event e h = rw (ne_eqb e 32 h)

pub read_low : (x : ℕ) → x < 1056 → measure_in x ≡ saying x Unsettled
unfolding measure_in
read_low x h = rw (lt-ltb x 1056 h)

pub read_endless : (x : ℕ) → x ≡ 65535 → measure_in x ≡ saying x Unsettled
unfolding measure_in
read_endless x h = rw (le-ltb x 1056 (omega arith), eq-eqb x 65535 h)

pub read_settled : (x : ℕ) → 1056 ≤ x → (x ≡ 65535 → ⊥) → measure_in x ≡ saying (x / 33 - 31) (begin_in (x % 33))
unfolding measure_in
read_settled x l h = rw (le-ltb x 1056 l, ne_eqb x 65535 h)

-- ---- the codes are apart from one another and fit 16 bits

pub settled_range : (d e : ℕ) → 0 < d → d < 1024 → e ≤ 32 → (1056 ≤ settled_at d e) × (settled_at d e < 34815)
unfolding settled_at
settled_range d e p h k = (omega arith, omega arith)

-- What a cell can hold: a distance below 1,024 and, if it is above 0, an event below 32 or the end.
abbrev pub Fits : Len → First → Type 0
Fits endless Unsettled = Unit {0}
Fits endless End = ⊥
Fits endless (Event a) = ⊥
Fits (len d) Unsettled = d < 1024
Fits (len d) End = (0 < d) × (d < 1024)
Fits (len d) (Event a) = (0 < d) × (d < 1024) × (a < 32)

pub settled-far : (d e : ℕ) → e ≤ 32 → settled_at d e / 33 - 31 ≡ d
unfolding settled_at
settled-far d e k = omega arith

pub settled-number : (d e : ℕ) → e ≤ 32 → settled_at d e % 33 ≡ e
unfolding settled_at
settled-number d e k = omega arith

pub settled_says : (d e : ℕ) → 0 < d → d < 1024 → e ≤ 32 → measure_in (settled_at d e) ≡ saying d (begin_in e)
settled_says d e p h k =
    let r = settled_range d e p h k in
    read_settled (settled_at d e) r.0 (λ z. omega (arith, r.1)) ∙ ap₂ saying (settled-far d e k) (ap begin_in (settled-number d e k))

pub cell_says : (x : Len) (f : First) → Fits x f → measure_in (cell_of x f) ≡ saying (len_cell x) f
unfolding cell_of
cell_says endless Unsettled h = read_endless 65535 refl
cell_says endless End h = absurd h
cell_says endless (Event a) h = absurd h
cell_says (len d) Unsettled h = read_low d (omega arith)
cell_says (len d) End h = settled_says d 32 h.0 h.1 (omega arith) ∙ ap (saying d) (begin_end 32 refl)
cell_says (len d) (Event a) h = settled_says d a h.0 h.1 (omega (arith, h.2)) ∙ ap (saying d) (begin_event a (λ z. omega (arith, h.2)))
