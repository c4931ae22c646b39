use mathlib.Core.Path.{◌≡◌, ap, subst, ◌∙◌}
use mathlib.Core.List.{List}
use Prim.Native.Nat.{ℕ, min}
use native.Mathlib.Omega.{arith}
use lib.ListN.{length, take, length-take, replicate}
use Rattle.std.specs.Io.KnownBytes.{Appends}
use Rattle.filters.proofs.Front.{filled_front}
use Rattle.filters.proofs.run.Goals as goal

pub returns : goal.returns
returns g c =
    let buffer : List ℕ = c.read_full.new.buffer in
    let bytes : List ℕ = take c.in_ok-n.n buffer in
    let full : length buffer ≡ 65536 = c.read_full.auto.buffer in
    let at_end = c.in_ok-n.ensures.end in
    let out : List ℕ = c.write-length.new.out in
    let text : List ℕ = g.D.Desk.printed bytes in
    let m = min c.write-length.result (length out) in
    let same : length out ≡ 65536 = c.write-length.auto.out in
    let front : take m out ≡ take 65536 text
    = ap (take m) c.write-length.ensures.text ∙ filled_front (replicate 65536 0) text m (omega (arith, same, c.write-length.ensures.count)) in
    let written = subst (λ (l : List ℕ). Appends (g.W.Write.contents c.args.to.now) (g.W.Write.contents c.print.new.to) l) front c.in_ok-print.ensures.written in
    (bytes, g.R.Read.remaining c.read_full.new.source, c.in_ok-n.ensures.bytes, λ h. at_end (omega (arith, length-take c.in_ok-n.n buffer)), written)
