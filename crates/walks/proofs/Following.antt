-- A run is followed event by event.
use mathlib.Core.Path.{◌≡◌, refl, sym, ap, ap₂, ◌∙◌}
use mathlib.Core.List.{List, [], ◌∷◌, ◌++◌, append_assoc, append-nil}
use mathlib.Core.Logic.{inl, inr}
use Prim.Native.Nat.{ℕ, zero, suc, ◌+◌, ◌-◌, ◌*◌, ◌≤◌, ◌<◌}
use native.Mathlib.Omega.{arith}
use Rattle.std.proofs.lemmas.Bool.Decides.{nat_tests}
use borrow.Author.Tests.{eq-eqb, ne_eqb}
use lib.ListN.{length, get_or, length-append}
use Rattle.row_starts.specs.RowStarts.{starts_of_rows}
use Rattle.pairs.specs.Pairs.{start_in, pair_from, pair_at}
use Rattle.scratch.proofs.Numbers.{eq_or_ne}
use Rattle.chosen.specs.declared.First.{First}
use Rattle.chosen.specs.declared.First.TheVariants.{Unsettled, End, Event}
use Rattle.measures.specs.declared.Measure.{Measure}
use Rattle.measures.specs.Measures.{measure_in, begin_in}
use Rattle.measures.proofs.Cells.{measure_read}
use Rattle.text.specs.Text.{filled, Puts}
use Rattle.text.proofs.Buffer.{puts_then, puts_none, puts_all}
use Rattle.walks.specs.Walks.{number_of, next_at, walked}

-- ---- the next event

event_few : (x a : ℕ) → (measure_in x).first ≡ Event a → a < 32
unfolding measure_in begin_in
event_few x a e = grind (arith, nat_tests)

number_none : (f : First) → ((a : ℕ) → f ≡ Event a → ⊥) → number_of f ≡ 32
number_none Unsettled h = refl
number_none End h = refl
number_none (Event a) h = absurd (h a refl)

-- What is read of two rows by the stored row starts is how the run goes on from them: with an event below 32, or not at all.
module _ (s starts : List ℕ) (q p : ℕ) {m : Measure} (e : starts ≡ starts_of_rows) (h : m ≡ measure_in (pair_from (start_in starts) s q p)) where
  read : measure_in (pair_at s q p) ≡ m
  read = sym (measure_read starts s q p e h)

  pub next_event : {a : ℕ} → m.first ≡ Event a → (next_at s q p ≡ a) × (a < 32)
  unfolding next_at
  next_event {a} k =
      let g = ap (λ (x : Measure). x.first) read ∙ k in
      (ap number_of g, event_few (pair_at s q p) a g)

  pub next_none : ((a : ℕ) → m.first ≡ Event a → ⊥) → next_at s q p ≡ 32
  unfolding next_at
  next_none k = ap (λ (x : Measure). number_of x.first) read ∙ number_none m.first k

-- ---- the run

module _ (cells : List ℕ) (events : ℕ) (s : List ℕ) (n q p : ℕ) where
  pub walked_end : next_at s q p ≡ 32 → walked cells events s (suc n) q p ≡ []
  unfolding walked
  walked_end e = rw (eq-eqb (next_at s q p) 32 e)

  pub walked_on : (a : ℕ) → a ≡ next_at s q p → (a ≡ 32 → ⊥) → walked cells events s (suc n) q p ≡ (a ∷ walked cells events s n (get_or cells (q * events + a) 0) (get_or cells (p * events + a) 0))
  unfolding walked
  walked_on a e h = rw (e, ne_eqb (next_at s q p) 32 (λ k. h (e ∙ k)))

pub walked_none : (cells : List ℕ) (events : ℕ) (s : List ℕ) (q p : ℕ) → walked cells events s 0 q p ≡ []
unfolding walked
walked_none cells events s q p = refl

-- It has at most so many events.
pub walked_most : (cells : List ℕ) (events : ℕ) (s : List ℕ) (n q p : ℕ) → length (walked cells events s n q p) ≤ n
walked_most cells events s zero q p = omega (arith, ap (λ (l : List ℕ). length l) (walked_none cells events s q p))
walked_most cells events s (suc n) q p = elim (eq_or_ne (next_at s q p) 32) [
  | inl e ↦ omega (arith, ap (λ (l : List ℕ). length l) (walked_end cells events s n q p e))
  | inr e ↦ omega (arith, ap (λ (l : List ℕ). length l) (walked_on cells events s n q p (next_at s q p) refl e), walked_most cells events s n (get_or cells (q * events + next_at s q p) 0) (get_or cells (p * events + next_at s q p) 0))
]

-- The first `count` events of the run of q and p are written, and i and j are where they lead.
pub record Following (cells : List ℕ) (events : ℕ) (s : List ℕ) (rows q p : ℕ) (run₀ run : List ℕ) (at i j count : ℕ) : Type 0 where
  pub front : List ℕ
  pub counted : length front ≡ count
  pub goes_on : walked cells events s rows q p ≡ front ++ walked cells events s (rows - count) i j
  pub put : Puts run₀ 0 front run at

pub follow-first : (cells : List ℕ) (events : ℕ) (s : List ℕ) (rows q p : ℕ) (run : List ℕ) → Following cells events s rows q p run run 0 q p 0
follow-first cells events s rows q p run = record { front = []; counted = refl; goes_on = let e : rows - 0 ≡ rows = omega arith in rw e; put = puts_none run 0 }

module _ {cells : List ℕ} {events : ℕ} {s : List ℕ} {rows q p : ℕ} {run₀ run : List ℕ} {at i j count : ℕ} (f : Following cells events s rows q p run₀ run at i j count) where
  -- One event more.
  pub follow-next : {run' : List ℕ} {at' i' j' a : ℕ} → count < rows → next_at s i j ≡ a → a < 32 → Puts run at (a ∷ []) run' at'
      → i' ≡ get_or cells (i * events + a) 0 → j' ≡ get_or cells (j * events + a) 0 → Following cells events s rows q p run₀ run' at' i' j' (count + 1)
  follow-next {run'} {at'} {i'} {j'} {a} h ha few w hi hj = record {
    front = f.front ++ (a ∷ []);
    counted = omega (arith, f.counted, length-append f.front (a ∷ []));
    goes_on = f.goes_on ∙ ap (λ (l : List ℕ). f.front ++ l) step ∙ sym (append_assoc f.front (a ∷ []) (walked cells events s (rows - (count + 1)) i' j'));
    put = puts_then f.put w;
  }
    where
      step : walked cells events s (rows - count) i j ≡ (a ∷ walked cells events s (rows - (count + 1)) i' j')
      step =
          let e : rows - count ≡ suc (rows - (count + 1)) = omega arith in
          ap (λ (n : ℕ). walked cells events s n i j) e
          ∙ walked_on cells events s (rows - (count + 1)) i j a (sym ha) (λ k. omega arith)
          ∙ ap₂ (λ (x y : ℕ). a ∷ walked cells events s (rows - (count + 1)) x y) (sym hi) (sym hj)

  -- The end.
  ended : walked cells events s (rows - count) i j ≡ [] → (count ≡ length (walked cells events s rows q p)) × (run ≡ filled run₀ (walked cells events s rows q p))
  ended e =
      let w : walked cells events s rows q p ≡ f.front = f.goes_on ∙ ap (λ (l : List ℕ). f.front ++ l) e ∙ append-nil f.front in
      (omega (arith, f.counted, ap (λ (l : List ℕ). length l) w), (puts_all f.put).0 ∙ ap (filled run₀) (sym w))

  pub follow-end : count < rows → next_at s i j ≡ 32 → (count ≡ length (walked cells events s rows q p)) × (run ≡ filled run₀ (walked cells events s rows q p))
  follow-end h e =
      let k : rows - count ≡ suc (rows - (count + 1)) = omega arith in
      ended (ap (λ (n : ℕ). walked cells events s n i j) k ∙ walked_end cells events s (rows - (count + 1)) i j e)

  pub follow-all : count ≡ rows → (rows ≡ length (walked cells events s rows q p)) × (run ≡ filled run₀ (walked cells events s rows q p))
  follow-all h =
      let k : rows - count ≡ 0 = omega arith in
      let e = ended (ap (λ (n : ℕ). walked cells events s n i j) k ∙ walked_none cells events s i j) in
      (sym h ∙ e.0, e.1)
