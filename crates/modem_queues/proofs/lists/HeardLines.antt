-- Lines that wait are known by how they are announced.
use Rattle.std.proofs.Common.{ap, ◌∙◌, subst}
use Rattle.std.proofs.Math.Bridge.{le_prop}
use Rattle.std.specs.Prelude.{◌≡◌, ℕ, ◌<◌, List, [], ◌∷◌, map, refl}
use Rattle.at_text.specs.declared.unsolicited.UrcKind.{UrcKind}
use Rattle.mux_frame.specs.declared.dlci.Dlci.{Dlci}
use Rattle.modem_desk.specs.declared.request.Urc.{Urc}
use Rattle.modem_history.specs.Sessions.{heard_as}

same_dlci : (a b : Dlci) → a.number ≡ b.number → a ≡ b
same_dlci a b e =
    subst (λ (k : ℕ). (q : k < 62) → (let c : Dlci = record { number = k; in_range = q } in a ≡ c)) e
    (λ q. ap (λ (h : a.number < 62). let c : Dlci = record { number = a.number; in_range = h } in c) (le_prop a.in_range q)) b.in_range

same_line : (u v : Urc) → heard_as u ≡ heard_as v → u ≡ v
same_line u v e =
    let kinds : u.kind ≡ v.kind = cc in
    let dlcis : u.dlci.number ≡ v.dlci.number = cc in
    let texts : u.line ≡ v.line = cc in
    ap (λ (k : UrcKind). let w : Urc = record { kind = k; dlci = u.dlci; line = u.line } in w) kinds
    ∙ (ap (λ (d : Dlci). let w : Urc = record { kind = v.kind; dlci = d; line = u.line } in w) (same_dlci u.dlci v.dlci dlcis)
    ∙ ap (λ (l : List ℕ). let w : Urc = record { kind = v.kind; dlci = v.dlci; line = l } in w) texts)

-- lines that are announced as the same are the same
pub same_heard : (us vs : List Urc) → map heard_as us ≡ map heard_as vs → us ≡ vs
same_heard [] [] e = refl
same_heard [] (v ∷ vs) e = cc
same_heard (u ∷ us) [] e = cc
same_heard (u ∷ us) (v ∷ vs) e =
    let first : u ≡ v = same_line u v (let x : heard_as u ≡ heard_as v = cc in x) in
    let rest : us ≡ vs = same_heard us vs (let x : map heard_as us ≡ map heard_as vs = cc in x) in
    cc
