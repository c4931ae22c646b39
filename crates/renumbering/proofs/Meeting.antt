-- Going through the events of one row: what stands in line after each.
use mathlib.Core.Path.{◌≡◌, sym, ap, subst, ◌∙◌}
use mathlib.Core.List.{List, [], ◌∷◌}
use Prim.Native.Nat.{ℕ, ◌+◌, ◌*◌, ◌≤◌, ◌<◌}
use native.Mathlib.Omega.{arith}
use native.Mathlib.Numerals.{add-one}
use lib.Dec.{eqb}
use lib.ListN.{length, get_or, take}
use lib.Seq.{take-suc, take_all}
use Rattle.tables.specs.Lists.{sift}
use Rattle.tables.proofs.Lists.{tabulate-length, tabulate-at}
use Rattle.tables.proofs.Over.{part_length}
use Rattle.renumbering.specs.Line.{fold_row, line_in, next, Lined, Frame, Targets}
use Rattle.renumbering.proofs.Lines.{sift-append, sift-length, frame_none, frame_then, folds_stay, line_fits, line_list}

-- The line after the first `a` events.
abbrev pub so_far : List ℕ → List ℕ → ℕ → ℕ → ℕ → ℕ → ℕ → List ℕ
so_far cells s n m row count a = sift eqb (line_in n s count) (take a (next cells s n m row))

-- What has come of scratch s by then.
pub record Met (cells s : List ℕ) (n m row count a : ℕ) (c : ℕ) (t : List ℕ) : Type 0 where
  pub many : c ≡ length (so_far cells s n m row count a)
  pub lined : Lined n (so_far cells s n m row count a) t
  pub frame : Frame n c s t
  pub few : c ≤ n

module _ {cells s : List ℕ} {n m : ℕ} (row : ℕ) {count : ℕ} (T : Targets n m cells) (hc : count ≤ n) (g : Lined n (line_in n s count) s) where
  abbrev ahead : List ℕ
  ahead = next cells s n m row

  ahead-length : length ahead ≡ m
  ahead-length = tabulate-length m (λ a. fold_row n s (get_or cells (row * m + a) 0))

  -- No event yet.
  pub none-met : Met cells s n m row count 0 count s
  unfolding sift
  none-met = record { many = sym (part_length s n count (omega (arith, g.room))); lined = g; frame = frame_none n count s; few = hc }

  -- One event more.
  pub meets : {a c : ℕ} {t : List ℕ} → Met cells s n m row count a c t → a < m → {x r : ℕ} {u : List ℕ} → x ≡ fold_row n t (get_or cells (row * m + a) 0)
      → r ≡ length (sift eqb (line_in n t c) (x ∷ [])) → Lined n (sift eqb (line_in n t c) (x ∷ [])) u → Frame n (length (sift eqb (line_in n t c) (x ∷ []))) t u
      → Met cells s n m row count (a + 1) r u
  meets {a} {c} {t} h ha {x} {r} {u} hx hr hl hf =
      let list : line_in n t c ≡ so_far cells s n m row count a = line_list n (so_far cells s n m row count a) t h.lined c h.many in
      let value : x ≡ get_or ahead a 0
      = hx ∙ folds_stay h.frame h.few (get_or cells (row * m + a) 0) (T.inside (row * m + a))
      ∙ sym (tabulate-at m (λ b. fold_row n s (get_or cells (row * m + b) 0)) a 0 ha) in
      let more : sift eqb (line_in n t c) (x ∷ []) ≡ so_far cells s n m row count (a + 1)
      = ap (λ (l : List ℕ). sift eqb l (x ∷ [])) list ∙ ap (λ (y : ℕ). sift eqb (so_far cells s n m row count a) (y ∷ [])) value
      ∙ sym (sift-append eqb (take a ahead) (get_or ahead a 0 ∷ []) (line_in n s count))
      ∙ ap (sift eqb (line_in n s count)) (sym (take-suc ahead a 0 (omega (arith, ahead-length)))) ∙ ap (so_far cells s n m row count) (sym (add-one a)) in
      let lined : Lined n (so_far cells s n m row count (a + 1)) u = subst (λ (l : List ℕ). Lined n l u) more hl in
      record {
        many = hr ∙ ap length more;
        lined = lined;
        frame = frame_then h.frame (subst (λ (k : ℕ). Frame n k t u) (sym hr) hf)
            (omega (arith, h.many, ap length list, sift-length eqb (x ∷ []) (line_in n t c)));
        few = omega (arith, hr, ap length more, line_fits n (so_far cells s n m row count (a + 1)) u lined);
      }

  -- All events.
  pub all-met : {a c : ℕ} {t : List ℕ} → m ≤ a → Met cells s n m row count a c t
      → (c ≡ length (sift eqb (line_in n s count) ahead)) × Lined n (sift eqb (line_in n s count) ahead) t × Frame n (length (sift eqb (line_in n s count) ahead)) s t
  all-met {a} {c} {t} h e =
      let all : so_far cells s n m row count a ≡ sift eqb (line_in n s count) ahead
      = ap (sift eqb (line_in n s count)) (take_all a ahead (omega (arith, ahead-length))) in
      let many = e.many ∙ ap length all in
      (many, subst (λ (l : List ℕ). Lined n l t) all e.lined, subst (λ (k : ℕ). Frame n k s t) many e.frame)
