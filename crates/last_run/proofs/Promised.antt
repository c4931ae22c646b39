-- The promise, from what the code's parts ensure.
use mathlib.Core.Path.{◌≡◌, refl, sym, ap, subst, ◌∙◌}
use mathlib.Core.List.{List}
use Prim.Native.Nat.{ℕ, ◌+◌, ◌≤◌, ◌<◌}
use native.Mathlib.Omega.{arith}
use borrow.Author.Tests.{ltb-false}
use lib.ListN.{length, get_or, take, replicate}
use Rattle.tables.specs.Lists.{over}
use Rattle.tables.specs.Table.{Table, Offset, machine, events_of, weight_by}
use Rattle.tables.proofs.Counted.{mask_light}
use Rattle.tables.proofs.Over.{take-over}
use Rattle.rules.specs.Rules.{Verdict, sound, and_then, left_by}
use Rattle.std.specs.Prelude.{Result, Ok, Err}
use Rattle.rules.specs.declared.Refusal.{Refusal}
use Rattle.rules.proofs.Checks.{unbroken}
use Rattle.scratch.specs.Scratch.{scratch_cells, cleared}
use Rattle.scratch.proofs.Cells.{clear_work}
use Rattle.pairs.specs.Pairs.{needed}
use Rattle.pairs.proofs.Triangle.{needed-value}
use Rattle.chosen.specs.GivenUp.{Loss, GivesUp, given_up}
use Rattle.chosen.proofs.GivenUp.{given_folded, loss_is}
use Rattle.folding.specs.Folding.{folded_in}
use Rattle.folding.proofs.FoldedIn.{folded-size, folded-beyond}
use Rattle.last_run_rules.specs.Checks.{verdict, run_rule, answer_by}
use Rattle.last_run_rules.proofs.Order.{Ready, fine-ready}
use Rattle.losses.specs.Losses.{loss_at}
use Rattle.last_run_rules.specs.declared.Told.{Told}
use Rattle.last_run.specs.LastRun.{Promise}
use Rattle.last_run.proofs.Given.{loss-told}

-- What is told of a run.
abbrev run_of : ℕ → ℕ → Told
run_of far n = record { distance = far; length = n }

abbrev told_of : ℕ → ℕ → Result Told Refusal
told_of far n = Ok (run_of far n)

no_run : {A : Type 0} {r : Refusal} {far n : ℕ} → Err r ≡ told_of far n → A
no_run e = let z : ◌≡◌ {A = ℕ} 0 1 = cc in absurd (omega arith)

same_run : {f l far n : ℕ} → told_of f l ≡ told_of far n → (f ≡ far) × (l ≡ n)
same_run {f} {l} {far} {n} e =
    let same : run_of f l ≡ run_of far n = cc in
    (ap (λ (t : Told). t.distance) same, ap (λ (t : Told). t.length) same)

module _ (k : Offset) (mask : ℕ) (T : Table) (row : ℕ) (run s : List ℕ) where
  abbrev v : Verdict
  v = verdict mask T row (length s)

  abbrev g : Loss
  g = given_up (weight_by mask) k T row

  -- A rule of 1 to 7 is broken.
  pub refused : (r : Refusal) → Err r ≡ v → Promise v g k mask T row run s (Err r) run s
  refused r e = record {
    answers = rw (← e) refl;
    run_after = rw (← e) refl;
    scratch_after = rw (← e) refl;
    gives_up = λ far n p h f. no_run h;
  }

  -- None is.
  module _ (e : sound ≡ v) (bytes : (i : ℕ) → get_or T.marks i 0 < 256) where
    pub ready : Ready T row (length s)
    ready = fine-ready mask T row (length s) (sym e) bytes

    abbrev u : Verdict
    u = run_rule (length g.run) (length run)

    -- The written run, read back.
    read_back : (w : Verdict) → run_rule (length g.run) (length run) ≡ w → (far n : ℕ) → answer_by w g ≡ told_of far n → (g.far ≡ far) × (take n (left_by w run g.run) ≡ g.run)
    read_back (Err r) h far n x = no_run x
    read_back (Ok u) h far n x =
        let y = same_run x in
        let m : length g.run ≤ length run = omega (arith, ltb-false (length run) (length g.run) (unbroken _ _ _ h)) in
        (y.0, ap (λ (i : ℕ). take i (over run 0 g.run)) (sym y.1) ∙ front m)
      where
        front : length g.run ≤ length run → take (length g.run) (over run 0 g.run) ≡ g.run
        front m =
            let i : length g.run ≡ 0 + length g.run = omega arith in
            ap (λ (j : ℕ). take j (over run 0 g.run)) i ∙ take-over run 0 g.run (omega arith)

    pub promised : {t run' s' : List ℕ} {r : Result Told Refusal} {n : ℕ} → t ≡ folded_in mask k T s
        → (let l = loss_at T.rows T.events T.cells t row in let w = run_rule (length l.run) (length run) in (r ≡ answer_by w l) × (run' ≡ left_by w run l.run))
        → n ≡ needed T.rows → s' ≡ cleared t 0 n → Promise v g k mask T row run s r run' s'
    promised {t} {run'} {s'} {r} {n} ht told hn hs = record {
      answers = said.0 ∙ ap (λ (w : Verdict). answer_by (and_then w u) g) e;
      run_after = said.1 ∙ ap (λ (w : Verdict). left_by (and_then w u) run g.run) e;
      scratch_after = hs ∙ ap (cleared t 0) hn ∙ cleaned ∙ ap (λ (i : ℕ). over s 0 (replicate i 0)) (sym (needed-value T.rows)) ∙ ap (λ (w : Verdict). left_by w s (replicate (scratch_cells T.rows) 0)) e;
      gives_up = λ far m p h f.
          let b = read_back u refl far m (sym said.0 ∙ h) in
          let x = loss_is (given_folded (weight_by mask) (mask_light mask T).at_most T ready.valid k row p ready.row_in f) in
          subst (λ (d : ℕ). GivesUp (events_of (weight_by mask) T) (machine T) row p d (take m run')) b.0
          (subst (GivesUp (events_of (weight_by mask) T) (machine T) row p g.far) (sym (ap (take m) said.1 ∙ b.1)) x);
    }
      where
        loss : loss_at T.rows T.events T.cells t row ≡ g
        loss = ap (λ (l : List ℕ). loss_at T.rows T.events T.cells l row) ht ∙ loss-told mask k T s ready.works ready.valid row ready.row_in

        said : (r ≡ answer_by u g) × (run' ≡ left_by u run g.run)
        said = subst (λ (l : Loss). let w = run_rule (length l.run) (length run) in (r ≡ answer_by w l) × (run' ≡ left_by w run l.run)) loss told

        cleaned : cleared t 0 (needed T.rows) ≡ over s 0 (replicate (needed T.rows) 0)
        cleaned = clear_work (needed T.rows) s t ready.fits (ap (λ (l : List ℕ). length l) ht ∙ folded-size mask k T s ready.works)
            (λ i h. ap (λ (l : List ℕ). get_or l i 0) ht ∙ folded-beyond mask k T s ready.works i (omega arith))
