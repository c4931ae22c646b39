-- Signatures and keys: rows of one signature share a key.
use mathlib.Core.Path.{◌≡◌, refl, sym, ap, ◌∙◌}
use mathlib.Core.List.{List}
use Prim.Native.Nat.{ℕ, zero, suc, ◌/◌, ◌<◌}
use native.Mathlib.Omega.{arith}
use Rattle.std.proofs.lemmas.Grind.{common_steps}
use Rattle.tables.specs.Table.{weight_by}
use Rattle.signatures.specs.Signatures.{class_at, Signed, mixed_at, mixed_to, key_of}

pub signed_back : (mask n m : ℕ) (cells s : List ℕ) (q p : ℕ) → Signed mask n m cells s q p → Signed mask n m cells s p q
signed_back mask n m cells s q p h a l w = sym (h a l w)

pub signed_trans : (mask n m : ℕ) (cells s : List ℕ) (q p r : ℕ) → Signed mask n m cells s q p → Signed mask n m cells s p r → Signed mask n m cells s q r
signed_trans mask n m cells s q p r h g a l w = h a l w ∙ g a l w

-- One event more leaves equal keys equal.
mixed_same : (mask n m : ℕ) (cells s t : List ℕ) (q p a x y : ℕ) → (weight_by mask a ≡ 1 → class_at n m cells s q a ≡ class_at n m cells t p a) → x ≡ y
    → mixed_at mask n m cells s q a x ≡ mixed_at mask n m cells t p a y
mixed_same mask n m cells s t q p a x y h e = grind (arith, common_steps)

pub to_same : (mask n m : ℕ) (cells s t : List ℕ) (q p k : ℕ) → ((a : ℕ) → a < k → weight_by mask a ≡ 1 → class_at n m cells s q a ≡ class_at n m cells t p a)
    → mixed_to mask n m cells s q k ≡ mixed_to mask n m cells t p k
unfolding mixed_to
to_same mask n m cells s t q p zero h = refl
to_same mask n m cells s t q p (suc a) h = mixed_same mask n m cells s t q p a (mixed_to mask n m cells s q a) (mixed_to mask n m cells t p a) (h a (omega arith))
    (to_same mask n m cells s t q p a (λ b l w. h b (omega arith) w))

pub key_same : (mask n m : ℕ) (cells s : List ℕ) (q p : ℕ) → Signed mask n m cells s q p → key_of mask n m cells s q ≡ key_of mask n m cells s p
key_same mask n m cells s q p h = ap (λ (x : ℕ). x / 65536) (to_same mask n m cells s s q p m h)
