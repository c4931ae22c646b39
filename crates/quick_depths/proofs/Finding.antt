-- From the start's lead alone to the leads of all rows.
use mathlib.Core.Path.{◌≡◌, ap, ◌∙◌}
use mathlib.Core.List.{List}
use Prim.Native.Nat.{ℕ, ◌*◌, ◌≤◌, ◌<◌}
use native.Mathlib.Omega.{arith}
use lib.ListN.{length, get_or, set, length-set}
use lib.Seq.{get_or-set_same, get_or-set_other}
use Rattle.rules.specs.Rules.{table_of}
use Rattle.scratch.specs.Scratch.{cleared}
use Rattle.scratch.proofs.Cells.{cleared-length, cleared-before, cleared-behind, cleared_inside}
use Rattle.depths.specs.Steps.{Workspace, Settled}
use Rattle.depths.proofs.Found.{first_known, settled-leads}
use Rattle.quick_depths.specs.Leads.{Space, Kept, Grows, Begun, Found}
use Rattle.quick_depths.proofs.Growth.{same_space, kept_then, grows_space, space_of, grows_front}

-- ---- before the first event
pub begun : {n start : ℕ} {s t u : List ℕ} (x : ℕ) → 0 < n → 12 * n ≤ length s → start < n → t ≡ cleared s 0 n → u ≡ cleared t (4 * n) (8 * n)
    → Begun n start s (set (set u start 1) (5 * n) x)
begun {n} {start} {s} {t} {u} x some room inside et eu =
    let tl : length t ≡ length s = ap length et ∙ cleared-length s 0 n (omega arith) (omega arith) in
    let ul : length u ≡ length t = ap length eu ∙ cleared-length t (4 * n) (8 * n) (omega arith) (omega arith) in
    let far : (k : ℕ) → (k ≡ start → ⊥) → (k ≡ 5 * n → ⊥) → get_or (set (set u start 1) (5 * n) x) k 0 ≡ get_or u k 0
    = λ k a b. get_or-set_other (set u start 1) (5 * n) k x 0 b ∙ get_or-set_other u start k 1 0 a in
    let tk : (k : ℕ) → n ≤ k → get_or t k 0 ≡ get_or s k 0 = λ k h. ap (λ (y : List ℕ). get_or y k 0) et ∙ cleared-behind s 0 n (omega arith) (omega arith) k h in
    record {
      kept = record {
        size = length-set (set u start 1) (5 * n) x ∙ length-set u start 1 ∙ ul ∙ tl;
        spare = λ k l h. far k (λ e. omega arith) (λ e. omega arith) ∙ ap (λ (y : List ℕ). get_or y k 0) eu ∙ cleared-before t (4 * n) (8 * n) (omega arith) (omega arith) k h ∙ tk k l;
        behind = λ k l. far k (λ e. omega arith) (λ e. omega arith) ∙ ap (λ (y : List ℕ). get_or y k 0) eu ∙ cleared-behind t (4 * n) (8 * n) (omega arith) (omega arith) k l ∙ tk k (omega arith);
      };
      started = record {
        here = get_or-set_other (set u start 1) (5 * n) start x 0 (λ e. omega arith) ∙ get_or-set_same u start 1 0 (omega arith);
        other = λ q h ne. far q ne (λ e. omega arith) ∙ ap (λ (y : List ℕ). get_or y q 0) eu ∙ cleared-before t (4 * n) (8 * n) (omega arith) (omega arith) q (omega arith) ∙ ap (λ (y : List ℕ). get_or y q 0) et ∙ cleared_inside s 0 n (omega arith) (omega arith) q (omega arith) h;
      };
    }

-- ---- at rest
pub found : {mask n m start : ℕ} {cells s t u v w : List ℕ} → Space n m cells s → start < n → Begun n start s t → Grows mask n m cells t u → (Workspace n m cells u → Settled mask n m cells u v)
    → w ≡ cleared v (4 * n) (8 * n) → (marks : List ℕ) → Found mask (table_of n m start cells marks) s w
found {mask} {n} {m} {start} {cells} {s} {t} {u} {v} {w} space inside b g settled e marks =
    let T = table_of n m start cells marks in
    let ready : Workspace n m cells u = space_of (grows_space g (same_space space b.kept.size)) in
    let d = settled ready in
    let done : Kept n s v = kept_then (kept_then b.kept g.kept) (grows_front d.same_length d.behind d.grown).kept in
    let room : 8 * n ≤ length v = omega (arith, space.room, done.size) in
    let before : (j : ℕ) → j < 4 * n → get_or w j 0 ≡ get_or v j 0 = λ j h. ap (λ (y : List ℕ). get_or y j 0) e ∙ cleared-before v (4 * n) (8 * n) (omega arith) room j h in
    record {
      kept = record {
        size = ap length e ∙ cleared-length v (4 * n) (8 * n) (omega arith) room ∙ done.size;
        spare = λ j l h. before j h ∙ done.spare j l h;
        behind = λ j l. ap (λ (y : List ℕ). get_or y j 0) e ∙ cleared-behind v (4 * n) (8 * n) (omega arith) room j l ∙ done.behind j l;
      };
      leads = λ q h. before q (omega arith) ∙ settled-leads mask T ready inside ((g.grown start marks).known (first_known mask T b.started inside)) d q h;
      empty = λ j l h. ap (λ (y : List ℕ). get_or y j 0) e ∙ cleared_inside v (4 * n) (8 * n) (omega arith) room j l h;
    }
