use Rattle.std.proofs.Common.{◌≡◌, ℕ, List, [], ◌∷◌, ◌++◌, is_ok, ap, ◌∙◌}
use Rattle.at_text.proofs.AnswerTexts.{when_well, pushed_fills, pushed_shows}
use Rattle.at_text.proofs.answer_lines.AnswerLines.push.Goals as goal

pub invariant_of-self-2 : goal.invariant_of-self-2
invariant_of-self-2 c =
    let octets = c.self.inside.octets.items in
    let ends = c.self.inside.ends.items in
    let room = c.in_ok-make_room.ensures.room in
    let line = c.args.line.now in
    let octets_are : c.extend_from_slice.new.self.items ≡ octets ++ line =
    when_well (is_ok c.extend_from_slice.result) c.extend_from_slice.new.self.items (c.make_room.new.octets.items ++ line) c.make_room.new.octets.items
    (c.extend_from_slice.ensures.succeeds room) c.extend_from_slice.ensures.items
    ∙ ap (λ (xs : List ℕ). xs ++ line) c.make_room.ensures.items in
    let end_is = c.len.ensures ∙ c.extend_from_slice.new.self.ok.0 in
    let ends_are : c.push_reserved.new.self.items ≡ ends ++ c.len.result ∷ [] =
    c.push_reserved.ensures.items ∙ ap (λ (xs : List ℕ). xs ++ c.len.result ∷ []) c.make_room_for_end.ensures.items in
    pushed_fills ends octets c.push_reserved.new.self.items c.extend_from_slice.new.self.items line c.len.result octets_are end_is ends_are c.self.invariant

pub returns-clause-ok : goal.returns-clause-ok
returns-clause-ok c =
    let octets = c.self.inside.octets.items in
    let ends = c.self.inside.ends.items in
    let room = c.in_ok-make_room.ensures.room in
    let line = c.args.line.now in
    let octets_are : c.extend_from_slice.new.self.items ≡ octets ++ line =
    when_well (is_ok c.extend_from_slice.result) c.extend_from_slice.new.self.items (c.make_room.new.octets.items ++ line) c.make_room.new.octets.items
    (c.extend_from_slice.ensures.succeeds room) c.extend_from_slice.ensures.items
    ∙ ap (λ (xs : List ℕ). xs ++ line) c.make_room.ensures.items in
    let end_is = c.len.ensures ∙ c.extend_from_slice.new.self.ok.0 in
    let ends_are : c.push_reserved.new.self.items ≡ ends ++ c.len.result ∷ [] =
    c.push_reserved.ensures.items ∙ ap (λ (xs : List ℕ). xs ++ c.len.result ∷ []) c.make_room_for_end.ensures.items in
    pushed_shows c.args.self.now ends octets c.push_reserved.new.self.items c.extend_from_slice.new.self.items line c.len.result octets_are end_is ends_are c.self.invariant c.self.view_is
