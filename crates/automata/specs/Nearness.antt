-- Whether runs tell two rows apart, as a test that computes. That it decides `Near` is proved in proofs/Nearness.antt.
use Rattle.std.specs.Prelude.{Bool, true, false, ◌&&◌, ℕ, zero, suc, eqb}
use Rattle.automata.specs.Runs.{Events, Machine}

-- The test holds of every number below n.
unfoldable pub every : ℕ → (ℕ → Bool) → Bool
every zero f = true
every (suc n) f = f n && every n f

-- `base` holds of rows q and p, and of those that any j or fewer events picked by `light` lead to.
unfoldable pub rounds : Events → Machine → (ℕ → ℕ → Bool) → (ℕ → Bool) → ℕ → ℕ → ℕ → Bool
rounds E M base light zero q p = base q p
rounds E M base light (suc j) q p =
    base q p && every E.count (λ a. elim (light a) [ true ↦ rounds E M base light j (M.target q a) (M.target p a) | false ↦ true ])

-- No run of size L or more tells q from p. It looks at c events without weight in a row at the most; as many as there are rows is enough.
unfoldable pub near : Events → Machine → ℕ → ℕ → ℕ → ℕ → Bool
near E M c zero = rounds E M (λ q p. eqb (M.mark q) (M.mark p)) (λ a. true) c
near E M c (suc L) =
    rounds E M (λ q p. every E.count (λ a. elim (eqb (E.weight a) 0) [ true ↦ true | false ↦ near E M c L (M.target q a) (M.target p a) ]))
    (λ a. eqb (E.weight a) 0) c
