-- "Tables put in order": the order is total over behaviours.
use mathlib.Core.Path.{◌≡◌, refl, sym, ap, subst, ◌∙◌}
use mathlib.Core.List.{List, [], ◌∷◌}
use mathlib.Core.Logic.{◌⊎◌, inl, inr, ◌↔◌}
use Prim.Native.Nat.{ℕ, ◌+◌, ◌≤◌, ◌<◌}
use native.Mathlib.Omega.{arith}
use lib.ListN.{length}
use Rattle.automata.specs.Runs.{Events, Machine, Sound, Light, Run, shows, AgreeFrom}
use Rattle.tables.specs.Table.{Table, Valid, machine, events_of, offset}
use Rattle.tables.specs.Reduction.{reduced}
use Rattle.tables.proofs.Reduced.{sound_of}
use Rattle.tables.proofs.Theorems.{valid, same_events, agrees}
use Rattle.chosen.proofs.Orders.{compare}
use Rattle.ordering.specs.Order.{Sooner, FirstDifference, Before, all_events, ComesBefore, Alike, compared_rows, comparison}
use Rattle.ordering.specs.declared.Order.{Order}
use Rattle.ordering.specs.declared.Order.TheVariants.{First, Equal, Second}
use Rattle.ordering.proofs.Runs.{sooner_cases, sooner_trans}
use Rattle.ordering.proofs.Search.{first_one, first_flip, first_or_none}
use Rattle.ordering.proofs.Compared.{marks_first, marks_second, first_equal, second_equal, first-second, rows_told, rows_equal}

-- ---- machines
module _ {E : Events} {M N : Machine} where
  -- A first difference says which comes before.
  pub told : (w : List ℕ) → FirstDifference E M N M.start N.start w → Before E M N ⊎ Before E N M
  told w f = elim (compare (shows M w) (shows N w)) [
    | inl h ↦ inl (record { by = w; first = f; lower = h })
    | inr r ↦ elim r [
      | inl e ↦ absurd (f.differ e)
      | inr h ↦ inr (record { by = w; first = first_flip f; lower = h })
    ]
  ]

  -- One of the three holds;
  pub compared : Sound E M → Sound E N → Light E → Before E M N ⊎ (AgreeFrom E 0 M N ⊎ Before E N M)
  compared s t z = elim (first_or_none s t z s.start_inside t.start_inside) [
    | inl n ↦ inr (inl n)
    | inr x ↦ elim (told x.0 x.2) [ inl b ↦ inl b | inr b ↦ inr (inr b) ]
  ]

  -- no two of them do.
  pub not_equal : Before E M N → ¬ AgreeFrom E 0 M N
  not_equal b n = b.first.differ (n.same b.by b.first.run (omega arith))

  pub not-both : Before E M N → ¬ Before E N M
  not-both b c =
      let e = first_one b.by c.by b.first (first_flip c.first) in
      omega (arith, b.lower, subst (λ (w : List ℕ). shows N w < shows M w) (sym e) c.lower)

  -- The run that tells has fewer events than the machines have rows.
  pub bound : Sound E M → Sound E N → Light E → (b : Before E M N) → length b.by < M.rows + N.rows
  bound s t z b = elim (first_or_none s t z s.start_inside t.start_inside) [
    | inl n ↦ absurd (not_equal b n)
    | inr x ↦ subst (λ (w : List ℕ). length w < M.rows + N.rows) (first_one x.0 b.by x.2 b.first) x.1
  ]

-- It respects behaviour on both sides,
pub respects : {E : Events} {M M' N N' : Machine} → AgreeFrom E 0 M M' → AgreeFrom E 0 N N' → Before E M N → Before E M' N'
respects m n b = record {
  by = b.by;
  first = record {
    run = b.first.run;
    differ = λ e. b.first.differ (m.same b.by b.first.run (omega arith) ∙ e ∙ sym (n.same b.by b.first.run (omega arith)));
    before = λ v hv h. sym (m.same v hv (omega arith)) ∙ b.first.before v hv h ∙ n.same v hv (omega arith);
  };
  lower = omega (arith, b.lower, m.same b.by b.first.run (omega arith), n.same b.by b.first.run (omega arith));
}

-- and it is passed on.
pub passed_on : {E : Events} {M N K : Machine} → Before E M N → Before E N K → Before E M K
passed_on {E} {M} {N} {K} b c = elim (sooner_cases b.by c.by) [
  | inl h ↦
      let e = c.first.before b.by b.first.run h in
      record {
        by = b.by;
        first = record {
          run = b.first.run;
          differ = λ g. b.first.differ (g ∙ sym e);
          before = λ v hv l. b.first.before v hv l ∙ c.first.before v hv (sooner_trans v b.by c.by l h);
        };
        lower = omega (arith, b.lower, e);
      }
  | inr r ↦ elim r [
    | inl e ↦
        let x = subst (λ (w : List ℕ). shows N w < shows K w) (sym e) c.lower in
        record {
          by = b.by;
          first = record {
            run = b.first.run;
            differ = λ g. omega (arith, b.lower, x, g);
            before = λ v hv l. b.first.before v hv l ∙ c.first.before v hv (subst (Sooner v) e l);
          };
          lower = omega (arith, b.lower, x);
        }
    | inr h ↦
        let e = b.first.before c.by c.first.run h in
        record {
          by = c.by;
          first = record {
            run = c.first.run;
            differ = λ g. c.first.differ (sym e ∙ g);
            before = λ v hv l. b.first.before v hv (sooner_trans v c.by b.by l h) ∙ c.first.before v hv l;
          };
          lower = omega (arith, c.lower, e);
        }
  ]
]

-- `compared_rows` of the starts is the order.
module _ {E : Events} {M N : Machine} (s : Sound E M) (t : Sound E N) (z : Light E) where
  abbrev answer : Order
  answer = compared_rows E M N M.start N.start

  pub answer-first : Before E M N → answer ≡ First
  answer-first b = rows_told s t z b.by s.start_inside t.start_inside b.first ∙ marks_first (shows M b.by) (shows N b.by) b.lower

  pub answer-second : Before E N M → answer ≡ Second
  answer-second b = rows_told s t z b.by s.start_inside t.start_inside (first_flip b.first) ∙ marks_second (shows M b.by) (shows N b.by) b.lower

  pub answer_equal : AgreeFrom E 0 M N → answer ≡ Equal
  answer_equal n = rows_equal s t z n

  pub first-answer : answer ≡ First → Before E M N
  first-answer e = elim (compared s t z) [ inl b ↦ b | inr r ↦ elim r [ inl n ↦ first_equal e (answer_equal n) | inr b ↦ first-second e (answer-second b) ] ]

  pub equal_answer : answer ≡ Equal → AgreeFrom E 0 M N
  equal_answer e = elim (compared s t z) [ inl b ↦ first_equal (answer-first b) e | inr r ↦ elim r [ inl n ↦ n | inr b ↦ second_equal (answer-second b) e ] ]

  pub second-answer : answer ≡ Second → Before E N M
  second-answer e = elim (compared s t z) [ inl b ↦ first-second (answer-first b) e | inr r ↦ elim r [ inl n ↦ second_equal e (answer_equal n) | inr b ↦ b ] ]

-- ---- tables

-- The same, over the events of another table that has as many.
over : (T U : Table) {M N : Machine} → U.events ≡ T.events → Before (all_events U) M N → Before (all_events T) M N
over T U {M} {N} e = subst (λ (n : ℕ). Before (record { count = n; weight = λ a. 1 }) M N) e

alike-near : (T U : Table) → Alike T U → AgreeFrom (all_events T) 0 (machine T) (machine U)
alike-near T U h = record { same = λ w hw hl. h w hw }

near-alike : (T U : Table) → AgreeFrom (all_events T) 0 (machine T) (machine U) → Alike T U
near-alike T U n w hw = n.same w hw (omega arith)

module _ (T U : Table) (v : Valid T) (u : Valid U) (e : U.events ≡ T.events) where
  s : Sound (all_events T) (machine T)
  s = sound_of (λ a. 1) T T refl v

  t : Sound (all_events T) (machine U)
  t = sound_of (λ a. 1) T U e u

  z : Light (all_events T)
  z = record { at_most = λ a. omega arith }

  -- Exactly one of the three holds.
  pub order-total : ComesBefore T U ⊎ (Alike T U ⊎ ComesBefore U T)
  order-total = elim (compared s t z) [
    | inl b ↦ inl b
    | inr r ↦ elim r [ inl n ↦ inr (inl (near-alike T U n)) | inr b ↦ inr (inr (over U T (sym e) b)) ]
  ]

  pub order_unlike : ComesBefore T U → ¬ Alike T U
  order_unlike b h = not_equal b (alike-near T U h)

  pub order-one_way : ComesBefore T U → ¬ ComesBefore U T
  order-one_way b c = not-both b (over T U e c)

  -- The run that tells has fewer events than the tables have rows together.
  pub order_bound : (b : ComesBefore T U) → length b.by < T.rows + U.rows
  order_bound b = bound s t z b

  -- The function says which holds.
  pub comparison-first : (comparison T U ≡ First) ↔ ComesBefore T U
  unfolding comparison
  comparison-first = (first-answer s t z, answer-first s t z)

  pub comparison_equal : (comparison T U ≡ Equal) ↔ Alike T U
  unfolding comparison
  comparison_equal = (λ h. near-alike T U (equal_answer s t z h), λ h. answer_equal s t z (alike-near T U h))

  pub comparison-second : (comparison T U ≡ Second) ↔ ComesBefore U T
  unfolding comparison
  comparison-second = (λ h. over U T (sym e) (second-answer s t z h), λ b. answer-second s t z (over T U e b))

-- The other way round the answer is turned.
abbrev pub turned : Order → Order
turned First = Second
turned Equal = Equal
turned Second = First

pub comparison-turned : (T U : Table) → Valid T → Valid U → U.events ≡ T.events → comparison U T ≡ turned (comparison T U)
comparison-turned T U v u e = elim (order-total T U v u e) [
  | inl b ↦ (comparison-second U T u v (sym e)).1 b ∙ ap turned (sym ((comparison-first T U v u e).1 b))
  | inr r ↦ elim r [
    | inl h ↦ (comparison_equal U T u v (sym e)).1 (λ w hw. sym (h w (subst (λ (n : ℕ). Run (record { count = n; weight = λ a. 1 }) w) e hw)))
        ∙ ap turned (sym ((comparison_equal T U v u e).1 h))
    | inr b ↦ (comparison-first U T u v (sym e)).1 b ∙ ap turned (sym ((comparison-second T U v u e).1 b))
  ]
]

-- The order respects behaviour on both sides, and is passed on.
pub order_respects : (T T' U U' : Table) → Alike T T' → U.events ≡ T.events → T'.events ≡ T.events → Alike U U' → ComesBefore T U → ComesBefore T' U'
order_respects T T' U U' h e f k b = over T' T (sym f) (respects (alike-near T T' h)
    (subst (λ (n : ℕ). AgreeFrom (record { count = n; weight = λ a. 1 }) 0 (machine U) (machine U')) e (alike-near U U' k)) b)

pub order-passed_on : (T U W : Table) → U.events ≡ T.events → ComesBefore T U → ComesBefore U W → ComesBefore T W
order-passed_on T U W e b c = passed_on b (over T U e c)

-- The same behaviour is equal in it however it is written,
pub order_alike : (T U : Table) → Valid T → Valid U → U.events ≡ T.events → Alike T U → comparison T U ≡ Equal
order_alike T U v u e h = (comparison_equal T U v u e).1 h

-- a table and itself,
pub order_itself : (T : Table) → Valid T → comparison T T ≡ Equal
order_itself T v = order_alike T T v v refl (λ w hw. refl)

-- and a table and its reduction at offset 0, whatever events count there.
run_over : (E F : Events) → E.count ≡ F.count → (w : List ℕ) → Run E w → Run F w
run_over E F e [] h = tt
run_over E F e (a ∷ w) h = (omega (arith, h.0, e), run_over E F e w h.1)

pub order-reduced : (weight : ℕ → ℕ) → ((a : ℕ) → weight a ≤ 1) → (T : Table) → Valid T → comparison T (reduced weight (offset 0) T) ≡ Equal
order-reduced weight light T v =
    order_alike T (reduced weight (offset 0) T) v (valid weight light T v (offset 0)) (same_events weight light T v (offset 0)) (λ w hw.
    (agrees weight light T v (offset 0)).same w (run_over (all_events T) (events_of weight T) refl w hw) (omega arith))
