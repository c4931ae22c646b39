-- What is told of a row, as the code makes it.
use mathlib.Core.Path.{◌≡◌, sym, ap, ap₂, subst, ◌∙◌}
use mathlib.Core.List.{List, ◌++◌}
use Prim.Native.Nat.{ℕ, ◌+◌, ◌≤◌, ◌<◌}
use native.Mathlib.Omega.{arith}
use borrow.Author.Tests.{eq-eqb, ne_eqb, lt-ltb, le-ltb}
use lib.ListN.{length, get_or, drop}
use Rattle.tables.specs.Lists.{over}
use Rattle.rules.specs.Rules.{Verdict, sound, refusal, left_by}
use Rattle.std.specs.Prelude.{Result, Ok, Err}
use Rattle.rules.specs.declared.Refusal.{Refusal}
use Rattle.rules.specs.declared.Rule.TheVariants.{Run}
use Rattle.pairs.specs.Pairs.{pair_at, lead_at, folds_start}
use Rattle.measures.specs.Measures.{measure_in}
use Rattle.chosen.specs.GivenUp.{Loss}
use Rattle.text.specs.Text.{filled}
use Rattle.text.proofs.Buffer.{filled_in}
use Rattle.walks.specs.Walks.{walked}
use Rattle.last_run_rules.specs.declared.Told.{Told}
use Rattle.last_run_rules.specs.Checks.{run_rule, answer_by}
use Rattle.losses.specs.Losses.{into_at, loss_to, loss_at}

module _ (n : ℕ) (s : List ℕ) (q : ℕ) {lead : ℕ} (h : lead ≡ lead_at s n q) where
  pub into_self : lead ≡ 0 → q ≡ into_at n s q
  into_self e = sym (rw (eq-eqb (lead_at s n q) 0 (sym h ∙ e)))

  pub into_fold : (lead ≡ 0 → ⊥) → {x t : ℕ} → t ≡ folds_start n → x ≡ get_or s (t + q) 0 → x ≡ into_at n s q
  into_fold e place read = read ∙ ap (λ (a : ℕ). get_or s (a + q) 0) place ∙ sym (rw (ne_eqb (lead_at s n q) 0 (λ k. e (h ∙ k))))

-- Rule 18.
run_short : (needed given : ℕ) → given < needed → run_rule needed given ≡ Err (refusal Run 0)
run_short needed given h = rw (lt-ltb given needed h)

run_fits : (needed given : ℕ) → needed ≤ given → run_rule needed given ≡ sound
run_fits needed given h = rw (le-ltb given needed h)

-- A buffer with room for all of a text.
filled-over : (out l : List ℕ) → length l ≤ length out → filled out l ≡ over out 0 l
unfolding over
filled-over out l h = let e : length l ≡ 0 + length l = omega arith in filled_in out l h ∙ ap (λ (k : ℕ). l ++ drop k out) e

module _ (n events : ℕ) (cells s : List ℕ) (q : ℕ) (room : List ℕ) {p : ℕ} (hp : p ≡ into_at n s q) where
  abbrev g : Loss
  g = loss_to n events cells s q p

  same : g ≡ loss_at n events cells s q
  unfolding loss_at
  same = ap (loss_to n events cells s q) hp

  -- What is said of a loss, of that one.
  told_of : (r : Result Told Refusal) (after : List ℕ) → (let v = run_rule (length g.run) (length room) in (r ≡ answer_by v g) × (after ≡ left_by v room g.run))
      → let l = loss_at n events cells s q in let v = run_rule (length l.run) (length room) in (r ≡ answer_by v l) × (after ≡ left_by v room l.run)
  told_of r after h = subst (λ (l : Loss). let v = run_rule (length l.run) (length room) in (r ≡ answer_by v l) × (after ≡ left_by v room l.run)) same h

  module _ {k : ℕ} (hk : k ≡ length (walked cells events s n q p)) where
    pub told-short : length room < k
        → let l = loss_at n events cells s q in let v = run_rule (length l.run) (length room) in (Err (refusal Run 0) ≡ answer_by v l) × (room ≡ left_by v room l.run)
    told-short h =
        let e = run_short (length g.run) (length room) (omega (arith, hk)) in
        told_of (Err (refusal Run 0)) room (sym (ap (λ (v : Verdict). answer_by v g) e), sym (ap (λ (v : Verdict). left_by v room g.run) e))

    pub told-run : {after : List ℕ} {f : ℕ} → k ≤ length room → after ≡ filled room (walked cells events s n q p) → f ≡ (measure_in (pair_at s q p)).distance
        → let l = loss_at n events cells s q in let v = run_rule (length l.run) (length room) in (Ok (record { distance = f; length = k }) ≡ answer_by v l) × (after ≡ left_by v room l.run)
    told-run {after} {f} h ha hf =
        let e = run_fits (length g.run) (length room) (omega (arith, hk)) in
        told_of (Ok (record { distance = f; length = k })) after (
          ap₂ (λ (x y : ℕ). Ok (record { distance = x; length = y })) hf hk ∙ sym (ap (λ (v : Verdict). answer_by v g) e),
          ha ∙ filled-over room g.run (omega (arith, hk)) ∙ sym (ap (λ (v : Verdict). left_by v room g.run) e),
        )
