-- Packet contexts by their numbers (27.007, 10.1.1), and which of them are active (10.1.10).
use Rattle.std.specs.Prelude.{ℕ, ◌==◌, nat_lt, Bool, true, List, [], ◌∷◌, map, filter, Option, Some, None, if◌then◌else◌}
use Rattle.std.specs.List.{list_any}
use Rattle.modem_sim.specs.declared.contexts.PdpContext.{PdpContext}

-- the contexts with a new one, in rising order of their numbers: one of its number is replaced
abbrev pub with_context : PdpContext → List PdpContext → List PdpContext
with_context new [] = new ∷ []
with_context new (c ∷ contexts) =
    if nat_lt c.cid new.cid then c ∷ with_context new contexts
    else if c.cid == new.cid then new ∷ contexts
    else new ∷ c ∷ contexts

-- a context is named: by its number, or where all are
abbrev pub names : Option ℕ → PdpContext → Bool
names None c = true
names (Some n) c = c.cid == n

-- there is a context of this number; or none is asked for
abbrev pub is_defined : Option ℕ → List PdpContext → Bool
is_defined None contexts = true
is_defined (Some n) contexts = list_any (λ c. c.cid == n) contexts

-- the context of this number is active: it is one of these numbers
abbrev pub is_active : List ℕ → ℕ → Bool
is_active active cid = list_any (λ n. n == cid) active

-- a context is active after those that are named became so, or inactive
abbrev pub becomes_active : Bool → Option ℕ → List ℕ → PdpContext → Bool
becomes_active on which active c = if names which c then on else is_active active c.cid

-- the numbers of the contexts that are active then
abbrev pub active_after : Bool → Option ℕ → List ℕ → List PdpContext → List ℕ
active_after on which active contexts = map (λ c. c.cid) (filter (becomes_active on which active) contexts)
