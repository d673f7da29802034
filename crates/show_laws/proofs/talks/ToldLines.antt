-- What is told of lines, by the command that is under way before them.
use Rattle.std.specs.Prelude.{◌≡◌, ℕ, ◌+◌, ◌≤◌, ◌||◌, Bool, true, false, List, [], ◌∷◌, length, filter, Option, Some, None, is_none, is_some, refl, if◌then◌else◌}
use Rattle.std.specs.List.{list_any}
use Rattle.std.specs.Str.{bytes_eq}
use Rattle.std.proofs.Common.{ap, arith, ◌∙◌}
use Rattle.std.proofs.lemmas.Bool.{and_parts}
use Rattle.std.proofs.lemmas.Slice.Eq.{bytes_eq-Decides}
use Rattle.mux_capture.specs.declared.packet.Direction.TheVariants.{ToModem, FromModem}
use Rattle.at_text.specs.declared.unsolicited.UrcKind.{UrcKind}
use Rattle.at_text.specs.declared.window.Seen.{Seen}
use Rattle.at_text.specs.declared.window.Seen.TheVariants.{Echo, Kept, Done, Unsolicited, Other}
use Rattle.at_text.specs.Commands.{refusal_of}
use Rattle.at_text.specs.Dialects.{Dialect, is_solicited}
use Rattle.at_text.specs.OpenWindow.{OpenWindow, after_line, after_solicited, is_echo, opened, seen_by, solicited_by, with_line}
use Rattle.at_text.specs.Seeing.{by_kind}
use Rattle.modem_show.specs.declared.told.Told.{Told}
use Rattle.modem_show.specs.declared.told.Told.TheVariants.{Command, Text, Line}
use Rattle.modem_show.specs.Talking.{is_unprompted, overlaps, told_of, window_after}
use Rattle.show_laws.specs.Talks.{TellsApart, commands_in, finals_in}
use Rattle.show_laws.proofs.counts.ManyFrames.{unit}
use Rattle.show_laws.proofs.talks.CountedLines.{counted}

-- how many commands are under way
abbrev pub under_way : Option OpenWindow → ℕ
under_way None = 0
under_way (Some o) = 1

-- the command under way is a command line
abbrev pub is_asked : Option OpenWindow → Bool
is_asked None = true
is_asked (Some o) = is_none (refusal_of o.command)

-- ## Lines of the driver

-- no command overlaps, each is under way then
pub record DriverSays (dialect : Dialect) (w : Option OpenWindow) (ls : List (List ℕ)) : Type 0 where
  pub apart : list_any overlaps (told_of dialect ToModem w ls) ≡ false
  pub prompted : list_any (is_unprompted dialect) (told_of dialect ToModem w ls) ≡ false
  pub count : under_way (window_after dialect ToModem w ls) ≡ under_way w + commands_in ls
  pub asked : is_asked (window_after dialect ToModem w ls) ≡ true

-- so it is where one command at most is under way with these lines
pub driver_says : (dialect : Dialect) (w : Option OpenWindow) (ls : List (List ℕ)) → under_way w + commands_in ls ≤ 1 → is_asked w ≡ true → DriverSays dialect w ls
driver_says dialect w [] few asked = record { apart = refl; prompted = refl; count = omega arith; asked = asked }
driver_says dialect w (l ∷ ls) few asked = by_command (is_none (refusal_of l)) refl few (λ v f a. driver_says dialect v ls f a)
  where
    said : (b : Bool) → is_none (refusal_of l) ≡ b → (v : Option OpenWindow) (t : Told) → (if b then Some (opened l) else w) ≡ v → (if b then Command l (is_some w) else Text l) ≡ t → overlaps t ≡ false → is_unprompted dialect t ≡ false
        → under_way v ≡ under_way w + unit b → DriverSays dialect v ls → DriverSays dialect w (l ∷ ls)
    said b e v t window is apart prompted count rest =
        let told : told_of dialect ToModem w (l ∷ ls) ≡ t ∷ told_of dialect ToModem v ls =
        ap (λ (c : Bool). (if c then Command l (is_some w) else Text l) ∷ told_of dialect ToModem (if c then Some (opened l) else w) ls) e
        ∙ (ap (λ (x : Told). x ∷ told_of dialect ToModem (if b then Some (opened l) else w) ls) is ∙ ap (λ (x : Option OpenWindow). t ∷ told_of dialect ToModem x ls) window) in
        let behind : window_after dialect ToModem w (l ∷ ls) ≡ window_after dialect ToModem v ls =
        ap (λ (c : Bool). window_after dialect ToModem (if c then Some (opened l) else w) ls) e ∙ ap (λ (x : Option OpenWindow). window_after dialect ToModem x ls) window in
        let sum : commands_in (l ∷ ls) ≡ unit b + commands_in ls = ap (λ (c : Bool). length (if c then l ∷ filter (λ (x : List ℕ). is_none (refusal_of x)) ls else filter (λ (x : List ℕ). is_none (refusal_of x)) ls)) e ∙ counted b l (filter (λ (x : List ℕ). is_none (refusal_of x)) ls) in
        let k : under_way (window_after dialect ToModem w (l ∷ ls)) ≡ under_way (window_after dialect ToModem v ls) = ap under_way behind in
        let n = rest.count in
        record {
          apart = ap (list_any overlaps) told ∙ (ap (λ (x : Bool). x || list_any overlaps (told_of dialect ToModem v ls)) apart ∙ rest.apart);
          prompted = ap (list_any (is_unprompted dialect)) told ∙ (ap (λ (x : Bool). x || list_any (is_unprompted dialect) (told_of dialect ToModem v ls)) prompted ∙ rest.prompted);
          count = omega (arith, sum, k, n, count);
          asked = ap is_asked behind ∙ rest.asked;
        }

    idle : (v : Option OpenWindow) → under_way v ≤ 0 → is_some v ≡ false
    idle None h = refl
    idle (Some o) h = absurd (omega (arith, h))

    by_command : (b : Bool) → is_none (refusal_of l) ≡ b → under_way w + length (if b then l ∷ filter (λ (x : List ℕ). is_none (refusal_of x)) ls else filter (λ (x : List ℕ). is_none (refusal_of x)) ls) ≤ 1
        → ((v : Option OpenWindow) → under_way v + commands_in ls ≤ 1 → is_asked v ≡ true → DriverSays dialect v ls) → DriverSays dialect w (l ∷ ls)
    by_command true e h rest =
        let free = idle w (omega (arith, h)) in
        let none : under_way w ≤ 0 = omega (arith, h) in
        said true e (Some (opened l)) (Command l false) refl (ap (Command l) free) refl refl (omega (arith, none)) (rest (Some (opened l)) (omega (arith, h)) e)
    by_command false e h rest = said false e w (Text l) refl refl refl refl (omega arith) (rest w h asked)

-- ## Lines of the modem

-- each final code answers a command
pub record ModemSays (dialect : Dialect) (w : Option OpenWindow) (ls : List (List ℕ)) : Type 0 where
  pub apart : list_any overlaps (told_of dialect FromModem w ls) ≡ false
  pub prompted : list_any (is_unprompted dialect) (told_of dialect FromModem w ls) ≡ false
  pub count : under_way (window_after dialect FromModem w ls) + finals_in dialect ls ≡ under_way w
  pub asked : is_asked (window_after dialect FromModem w ls) ≡ true

-- what one line comes to
record OneLine (dialect : Dialect) (w : Option OpenWindow) (l : List ℕ) (seen : Seen) (v : Option OpenWindow) (ends : ℕ) : Type 0 where
  prompted : is_unprompted dialect (Line l seen) ≡ false
  count : under_way v + ends ≡ under_way w
  asked : is_asked v ≡ true

echo_open : (dialect : Dialect) (o : OpenWindow) (l : List ℕ) → TellsApart dialect → is_none (refusal_of o.command) ≡ true → is_echo o l ≡ true → dialect.is_final l ≡ false
echo_open dialect o l apart asked e =
    let same = (bytes_eq-Decides l o.command).0 (and_parts o.fresh (bytes_eq l o.command) e).1 in
    ap dialect.is_final same ∙ apart o.command asked

solicited_line : (dialect : Dialect) (w : Option OpenWindow) (l : List ℕ) → TellsApart dialect → unit (dialect.is_final l) ≤ under_way w → is_asked w ≡ true
    → OneLine dialect w l (solicited_by dialect w l) (after_solicited dialect w l) (unit (dialect.is_final l))
solicited_line dialect None l apart few asked = by_final (dialect.is_final l) refl few
  where
    by_final : (b : Bool) → dialect.is_final l ≡ b → unit b ≤ 0 → OneLine dialect None l Other None (unit (dialect.is_final l))
    by_final true e h = absurd (omega (arith, h))
    by_final false e h = let u : unit (dialect.is_final l) ≡ 0 = ap unit e in record { prompted = e; count = omega (arith, u); asked = refl }
solicited_line dialect (Some o) l apart few asked = by_echo (is_echo o l) refl
  where
    by_final : (b : Bool) → dialect.is_final l ≡ b
        → OneLine dialect (Some o) l (if b then Done (with_line o l).lines else Kept) (if b then None else Some (with_line o l)) (unit (dialect.is_final l))
    by_final true e = let u : unit (dialect.is_final l) ≡ 1 = ap unit e in record { prompted = refl; count = omega (arith, u); asked = refl }
    by_final false e = let u : unit (dialect.is_final l) ≡ 0 = ap unit e in record { prompted = refl; count = omega (arith, u); asked = asked }

    by_echo : (b : Bool) → is_echo o l ≡ b
        → OneLine dialect (Some o) l (if b then Echo else (if dialect.is_final l then Done (with_line o l).lines else Kept))
        (if b then Some (record o { fresh = false }) else (if dialect.is_final l then None else Some (with_line o l))) (unit (dialect.is_final l))
    by_echo true e = let u : unit (dialect.is_final l) ≡ 0 = ap unit (echo_open dialect o l apart asked e) in record { prompted = refl; count = omega (arith, u); asked = asked }
    by_echo false e = by_final (dialect.is_final l) refl

none_more : (n : ℕ) → n ≡ 0 + n
none_more n = omega arith

-- so it is where no more final codes are among these lines than commands are under way, and no command line is one
pub modem_says : (dialect : Dialect) (w : Option OpenWindow) (ls : List (List ℕ)) → TellsApart dialect → finals_in dialect ls ≤ under_way w → is_asked w ≡ true → ModemSays dialect w ls
modem_says dialect w [] apart few asked = record { apart = refl; prompted = refl; count = omega arith; asked = asked }
modem_says dialect w (l ∷ ls) apart few asked = by_kind_of (dialect.kind_of l) refl few (λ v f a. modem_says dialect v ls apart f a)
  where
    said : (seen : Seen) (v : Option OpenWindow) (ends : ℕ) → seen_by dialect w l ≡ seen → after_line dialect w l ≡ v → finals_in dialect (l ∷ ls) ≡ ends + finals_in dialect ls → OneLine dialect w l seen v ends → ModemSays dialect v ls → ModemSays dialect w (l ∷ ls)
    said seen v ends is window sum one rest =
        let told : told_of dialect FromModem w (l ∷ ls) ≡ Line l seen ∷ told_of dialect FromModem v ls =
        ap (λ (x : Seen). Line l x ∷ told_of dialect FromModem (after_line dialect w l) ls) is ∙ ap (λ (x : Option OpenWindow). Line l seen ∷ told_of dialect FromModem x ls) window in
        let behind : window_after dialect FromModem w (l ∷ ls) ≡ window_after dialect FromModem v ls = ap (λ (x : Option OpenWindow). window_after dialect FromModem x ls) window in
        let k : under_way (window_after dialect FromModem w (l ∷ ls)) ≡ under_way (window_after dialect FromModem v ls) = ap under_way behind in
        let n = rest.count in
        let m = one.count in
        record {
          apart = ap (list_any overlaps) told ∙ rest.apart;
          prompted = ap (list_any (is_unprompted dialect)) told ∙ (ap (λ (x : Bool). x || list_any (is_unprompted dialect) (told_of dialect FromModem v ls)) one.prompted ∙ rest.prompted);
          count = omega (arith, sum, k, n, m);
          asked = ap is_asked behind ∙ rest.asked;
        }

    by_kind_of : (k : Option UrcKind) → dialect.kind_of l ≡ k → length (filter dialect.is_final (if is_none k then l ∷ filter (is_solicited dialect) ls else filter (is_solicited dialect) ls)) ≤ under_way w
        → ((v : Option OpenWindow) → finals_in dialect ls ≤ under_way v → is_asked v ≡ true → ModemSays dialect v ls) → ModemSays dialect w (l ∷ ls)
    by_kind_of (Some kind) e h rest =
        said (Unsolicited kind) w 0 (ap (λ (k : Option UrcKind). by_kind k (solicited_by dialect w l)) e) (ap (λ (k : Option UrcKind). if is_none k then after_solicited dialect w l else w) e)
        (ap (λ (k : Option UrcKind). length (filter dialect.is_final (if is_none k then l ∷ filter (is_solicited dialect) ls else filter (is_solicited dialect) ls))) e ∙ none_more (finals_in dialect ls))
        (record { prompted = refl; count = omega arith; asked = asked }) (rest w h asked)
    by_kind_of None e h rest =
        let sum = counted (dialect.is_final l) l (filter dialect.is_final (filter (is_solicited dialect) ls)) in
        let one = solicited_line dialect w l apart (omega (arith, h, sum)) asked in
        let c = one.count in
        said (solicited_by dialect w l) (after_solicited dialect w l) (unit (dialect.is_final l)) (ap (λ (k : Option UrcKind). by_kind k (solicited_by dialect w l)) e) (ap (λ (k : Option UrcKind). if is_none k then after_solicited dialect w l else w) e)
        (ap (λ (k : Option UrcKind). length (filter dialect.is_final (if is_none k then l ∷ filter (is_solicited dialect) ls else filter (is_solicited dialect) ls))) e ∙ sum)
        one (rest (after_solicited dialect w l) (omega (arith, h, sum, c)) one.asked)
