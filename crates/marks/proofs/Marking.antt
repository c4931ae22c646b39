-- Marks written one by one into lent bytes.
use mathlib.Core.Path.{◌≡◌, refl, sym, ap, subst, ◌∙◌}
use mathlib.Core.Bool.{Bool, cond}
use mathlib.Core.List.{List}
use mathlib.Core.Logic.{inl, inr, ◌≢◌}
use Prim.Native.Nat.{ℕ, ◌+◌, ◌*◌, ◌/◌, ◌≤◌, ◌<◌}
use native.Mathlib.Omega.{arith}
use native.Mathlib.Decide.{dec_lt}
use borrow.Author.Tests.{eq-eqb, ne_eqb}
use lib.Dec.{eqb}
use lib.ListN.{length, get_or}
use Rattle.automata.proofs.Tests.{last_or_less}
use Rattle.tables.specs.Lists.{tabulate, over}
use Rattle.tables.specs.Table.{mark_of, mark_byte_count, pack}
use Rattle.tables.proofs.Lists.{tabulate-length, tabulate-all}
use Rattle.tables.proofs.Marks.{pack-over}
use Rattle.marks.specs.Marks.{marked}
use Rattle.marks.proofs.Laws.{marked-length, marked_here, marked_else, marked_bytes}

-- With what was there beyond them.
module _ (m : ℕ → ℕ) (small : (i : ℕ) → m i ≤ 1) where
  pub record Marking (d e : List ℕ) (i : ℕ) : Type 0 where
    pub same : length e ≡ length d
    pub bytes : (j : ℕ) → get_or e j 0 < 256
    pub done : (r : ℕ) → r < i → mark_of e r ≡ m r
    pub ahead : (r : ℕ) → i ≤ r → mark_of e r ≡ mark_of d r

  pub marking_none : (d : List ℕ) → ((j : ℕ) → get_or d j 0 < 256) → Marking d d 0
  marking_none d h = record { same = refl; bytes = h; done = λ r l. absurd (omega arith); ahead = λ r l. refl }

  bit_is : (x i : ℕ) → x ≡ m i → cond (eqb x 1) 1 0 ≡ m i
  bit_is x i e = elim (dec_lt x 1) [
    | yes h ↦ let z : 0 ≡ m i = omega arith in ap (λ (b : Bool). cond b 1 0) (ne_eqb x 1 (λ k. absurd (omega arith))) ∙ z
    | no h ↦ let z : 1 ≡ m i = omega (arith, small i) in ap (λ (b : Bool). cond b 1 0) (eq-eqb x 1 (omega (arith, small i))) ∙ z
  ]

  pub marking_next : (d e : List ℕ) (i : ℕ) → Marking d e i → i / 8 < length d → (x : ℕ) → x ≡ m i → (u : List ℕ) → u ≡ marked e i (cond (eqb x 1) 1 0)
      → Marking d u (i + 1)
  marking_next d e i g h x hx u hu =
      let now : u ≡ marked e i (m i) = hu ∙ ap (marked e i) (bit_is x i hx) in
      let else : (r : ℕ) → r ≢ i → mark_of u r ≡ mark_of e r = λ r l. ap (λ (w : List ℕ). mark_of w r) now ∙ marked_else e i r (m i) (small i) l in
      record {
        same = ap length now ∙ marked-length e i (m i) ∙ g.same;
        bytes = λ j. subst (λ (w : List ℕ). get_or w j 0 < 256) (sym now) (marked_bytes e i (m i) (small i) g.bytes j);
        done = λ r l. elim (last_or_less r i (omega arith)) [
          | inl q ↦ ap (mark_of u) q ∙ ap (λ (w : List ℕ). mark_of w i) now ∙ marked_here e i (m i) (omega (arith, g.same)) (small i) ∙ ap m (sym q)
          | inr q ↦ else r (λ z. absurd (omega arith)) ∙ g.done r q
        ];
        ahead = λ r l. else r (λ z. absurd (omega arith)) ∙ g.ahead r (omega arith);
      }

  -- All of them, with no mark beyond the last.
  pub marking_all : (count : ℕ) → ((r : ℕ) → count ≤ r → m r ≡ 0) → (d e : List ℕ) (i : ℕ) → Marking d e i → ((j : ℕ) → get_or d j 0 < 256)
      → mark_byte_count count ≤ length d → i ≡ 8 * mark_byte_count count → e ≡ over d 0 (pack (tabulate count m))
  marking_all count none d e i g bytes fits end =
      let l : List ℕ = tabulate count m in
      let n : length l ≡ count = tabulate-length count m in
      let whole : mark_byte_count (length l) ≡ mark_byte_count count = ap mark_byte_count n in
      let read : (r : ℕ) → get_or l r 0 ≡ m r = λ r. tabulate-all count m r 0 (none r) in
      pack-over l d e (λ r. omega (arith, read r, small r)) bytes g.bytes g.same (omega arith)
      (λ r h. g.done r (omega arith) ∙ sym (read r)) (λ r h. g.ahead r (omega arith))
