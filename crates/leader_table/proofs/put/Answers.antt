use Rattle.leader_table.proofs.put.Goals as goal

pub returns : goal.returns
returns c = (λ z h. c.put_place.ensures, λ no. absurd (no (c.sized.ensures.holds c.if-not-sized.false) c.if-to-i.false))
