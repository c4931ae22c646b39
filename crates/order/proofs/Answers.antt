-- What is found is the order of the tables; what is left of scratch.
use mathlib.Core.Path.{◌≡◌, refl, sym, ap, ap₂, subst, ◌∙◌}
use mathlib.Core.List.{List}
use Prim.Native.Nat.{ℕ, suc, ◌+◌, ◌-◌, ◌*◌, ◌/◌, ◌≤◌, ◌<◌}
use native.Mathlib.Omega.{arith}
use lib.Arith.{digits_lt, digits_div, digits_mod}
use lib.ListN.{length, get_or, replicate}
use Rattle.automata.specs.Runs.{Sound}
use Rattle.tables.specs.Table.{Table, machine}
use Rattle.tables.proofs.Reduced.{sound_of}
use Rattle.rules.specs.Rules.{Verdict, sound, table_of, left_by}
use Rattle.std.specs.Prelude.{Result, Ok, Err}
use Rattle.rules.specs.declared.Refusal.{Refusal}
use Rattle.scratch.specs.Scratch.{cleared, machine_by}
use Rattle.scratch.proofs.Cells.{cleared-length, cleared_inside, cleared-behind, clear_work}
use Rattle.ordering.specs.Order.{all_events, comparison}
use Rattle.ordering.specs.Found.{number_of, order_of, found_at}
use Rattle.ordering.specs.declared.Order.{Order}
use Rattle.ordering.specs.declared.Order.TheVariants.{Equal}
use Rattle.ordering.proofs.First.{order-number}
use Rattle.ordering.proofs.Pairs.{pair-equal, pair-told}
use Rattle.order_rules.specs.Checks.{pair_cells, verdict, answer_by, Ready}
use Rattle.order_rules.proofs.Judged.{fine-ready}
use Rattle.order.specs.Cells.{lower_of}
use Rattle.order.specs.Search.{Framed, Given, Bare, Told, Sought, ToldBack, Searched, events_in, graph_by}
use Rattle.order.proofs.Levels.{framed_then}

module _ (rows events start : ℕ) (cells marks : List ℕ) (rows2 start2 : ℕ) (cells2 marks2 s : List ℕ)
    (ready : Ready (table_of rows events start cells marks) (table_of rows2 events start2 cells2 marks2) (length s)) where
  abbrev T : Table
  T = table_of rows events start cells marks

  abbrev U : Table
  U = table_of rows2 events start2 cells2 marks2

  first_sound : Sound (all_events T) (machine T)
  first_sound = sound_of (λ a. 1) T T refl ready.first

  second_sound : Sound (all_events T) (machine U)
  second_sound = sound_of (λ a. 1) T U refl ready.second

  -- The pair of the starts.
  abbrev at : ℕ
  at = start * rows2 + start2

  pub given : {t : List ℕ} → length t ≡ length s → Given (events_in events) (machine_by rows events cells marks) (machine_by rows2 events cells2 marks2) t
  given e = record {
    first = record { start_inside = omega (arith, first_sound.start_inside); target_inside = first_sound.target_inside };
    second = record { start_inside = omega (arith, second_sound.start_inside); target_inside = second_sound.target_inside };
    room = omega (arith, ready.fits);
  }

  pub at_in : at < rows * rows2
  at_in = digits_lt first_sound.start_inside second_sound.start_inside

  marked : lower_of marks marks2 start start2 ≡ (graph_by rows events cells marks rows2 cells2 marks2).mark at
  marked = sym (ap₂ (λ (i j : ℕ). lower_of marks marks2 i j) (digits_div start second_sound.start_inside) (digits_mod start second_sound.start_inside))

  -- An order from what is found.
  told : {found : ℕ} → number_of (comparison T U) ≡ found → order_of found ≡ comparison T U
  told e = ap order_of (sym e) ∙ order-number (comparison T U)

  -- The marks of the starts differ.
  pub at_once : {x : ℕ} {r : Order} → x ≡ lower_of marks marks2 start start2 → ¬ (x ≡ 0) → r ≡ order_of x → Searched rows events start cells marks rows2 start2 cells2 marks2 s s r
  unfolding comparison found_at
  at_once {x} {r} e h o = record {
    answers = o ∙ ap order_of (e ∙ marked)
        ∙ told (pair-told first_sound second_sound start start2 first_sound.start_inside second_sound.start_inside 0 (omega (arith, first_sound.start_inside)) (λ n l. absurd (omega arith)) (λ z. h (e ∙ marked ∙ z)));
    framed = record { size = refl; beyond = λ i l. refl };
  }

  -- They do not: the cells are cleared,
  module _ {t : List ℕ} {n : ℕ} (hn : n ≡ rows * rows2) (ht : t ≡ cleared s 0 n) where
    t-is : t ≡ cleared s 0 (rows * rows2)
    t-is = ht ∙ ap (cleared s 0) hn

    clear-size : length t ≡ length s
    clear-size = ap (λ (l : List ℕ). length l) t-is ∙ cleared-length s 0 (rows * rows2) (omega arith) ready.fits

    clear-framed : Framed (graph_by rows events cells marks rows2 cells2 marks2) s t
    clear-framed = record { size = clear-size; beyond = λ i l. ap (λ (z : List ℕ). get_or z i 0) t-is ∙ cleared-behind s 0 (rows * rows2) (omega arith) ready.fits i l }

    pub bare : {x p : ℕ} → x ≡ lower_of marks marks2 start start2 → x ≡ 0 → p ≡ at → Bare (graph_by rows events cells marks rows2 cells2 marks2) p t
    bare e z f = subst (λ (i : ℕ). Bare (graph_by rows events cells marks rows2 cells2 marks2) i t) (sym f) (record {
      start_inside = at_in;
      same = sym marked ∙ sym e ∙ z;
      zeros = λ k hk. ap (λ (l : List ℕ). get_or l k 0) t-is ∙ cleared_inside s 0 (rows * rows2) (omega arith) ready.fits k (omega arith) hk;
    })

    -- and the pairs are sought.
    module _ {u : List ℕ} {p last : ℕ} (hp : p ≡ at) (w : Sought (graph_by rows events cells marks rows2 cells2 marks2) p (rows + rows2) t u last) where
      sought : Sought (graph_by rows events cells marks rows2 cells2 marks2) at (rows + rows2) t u last
      sought = subst (λ (i : ℕ). Sought (graph_by rows events cells marks rows2 cells2 marks2) i (rows + rows2) t u last) hp w

      -- Nothing tells them apart.
      pub no_difference : last ≡ 0 → Searched rows events start cells marks rows2 start2 cells2 marks2 s u Equal
      unfolding comparison
      no_difference z = record {
        answers = told (pair-equal first_sound second_sound start start2 first_sound.start_inside second_sound.start_inside (sought.none z));
        framed = framed_then clear-framed w.framed;
      }

      -- The last level is a level.
      pub last-in : 0 < last → (0 < last) × (last < 4095)
      last-in h =
          let e : last ≡ suc (last - 1) = omega arith in
          (h, omega (arith, (sought.some (last - 1) e).0, ready.first.rows_fit, ready.second.rows_fit))

      -- What was told back to the starts.
      pub told-back-to : {v : List ℕ} {c : ℕ} {r : Order} → 0 < last → ToldBack (graph_by rows events cells marks rows2 cells2 marks2) (last - 1) u v → c ≡ get_or v p 0 → r ≡ order_of (c / 4096)
          → Searched rows events start cells marks rows2 start2 cells2 marks2 s v r
      unfolding comparison
      told-back-to {v} {c} {r} h b hc hr = record {
        answers = hr ∙ ap order_of said ∙ told (pair-told first_sound second_sound start start2 first_sound.start_inside second_sound.start_inside (last - 1) (sought.some (last - 1) is_last).0 (sought.some (last - 1) is_last).2 (sought.some (last - 1) is_last).3);
        framed = framed_then (framed_then clear-framed w.framed) b.framed;
      }
        where
          is_last : last ≡ suc (last - 1)
          is_last = omega arith

          back : Told (graph_by rows events cells marks rows2 cells2 marks2) at (last - 1) 0 v
          back = b.goes at at_in (sought.some (last - 1) is_last).1

          said : c / 4096 ≡ found_at (graph_by rows events cells marks rows2 cells2 marks2) (last - 1) at
          said =
              let e = back.told at 0 (last - 1) at_in back.met.begins (omega arith) (omega arith) in
              omega (arith, e, hc, ap (λ (i : ℕ). get_or v i 0) hp)

-- ---- the call
module _ (first second : Table) (s : List ℕ) where
  abbrev v : Verdict
  v = verdict first second (length s)

  abbrev Promised : Result Order Refusal → List ℕ → Type 0
  Promised r t = (r ≡ answer_by v (comparison first second)) × (t ≡ left_by v s (replicate (pair_cells first.rows second.rows) 0))

  pub refused : (r : Refusal) → Err r ≡ v → Promised (Err r) s
  refused r e = (ap (λ (w : Verdict). answer_by w (comparison first second)) e, ap (λ (w : Verdict). left_by w s (replicate (pair_cells first.rows second.rows) 0)) e)

  -- Mark bytes are bytes, as the code's types say.
  module _ (e : sound ≡ v) (bytes : (i : ℕ) → get_or first.marks i 0 < 256) (bytes2 : (i : ℕ) → get_or second.marks i 0 < 256) where
    ready : Ready first second (length s)
    ready = fine-ready first second (length s) (sym e) bytes bytes2

    pub sizes : (first.rows ≤ 1024) × (first.events ≤ 32) × (first.start < 1024) × (second.rows ≤ 1024) × (second.start < 1024)
    sizes =
        let t = ready.first in
        let u = ready.second in
        (t.rows_fit, t.events_fit, omega (arith, t.rows_fit, t.start_inside), u.rows_fit, omega (arith, u.rows_fit, u.start_inside))

    -- The search takes both tables to be over the first one's events.
    pub over-same : Ready first (table_of second.rows first.events second.start second.cells second.marks) (length s)
    over-same = subst (λ (n : ℕ). Ready first (table_of second.rows n second.start second.cells second.marks) (length s)) ready.same_events ready

    pub answered : {t u : List ℕ} {x : Order} {n : ℕ} → Searched first.rows first.events first.start first.cells first.marks second.rows second.start second.cells second.marks s t x → n ≡ first.rows * second.rows → u ≡ cleared t 0 n
        → Promised (Ok x) u
    answered {t} {u} {x} {n} w hn hu = (
      ap Ok (w.answers ∙ ap (λ (m : ℕ). comparison first (table_of second.rows m second.start second.cells second.marks)) (sym ready.same_events)) ∙ ap (λ (y : Verdict). answer_by y (comparison first second)) e,
      hu ∙ ap (cleared t 0) hn ∙ clear_work (first.rows * second.rows) s t ready.fits w.framed.size w.framed.beyond ∙ ap (λ (y : Verdict). left_by y s (replicate (pair_cells first.rows second.rows) 0)) e,
    )
