-- A text that is read line by line.
use Rattle.std.specs.Prelude.{◌≡◌, ◌≢◌, ℕ, ◌+◌, ◌<◌, ◌≤◌, List, [], ◌∷◌, length, refl}
use Rattle.std.proofs.Common.{ap, arith}
use Rattle.std.proofs.lemmas.List.Elements.{All-nil, All-cons}
use Rattle.ctl_text.specs.Input.{input_lines}
use Rattle.ctl_run.specs.Input.{IsFirstBad, IsReason}
use Rattle.ctl_run.specs.Statuses.{stop_at}
use Rattle.ctl_text.specs.LineFaults.{HasFault}
use Rattle.ctl_text.specs.declared.expected.Expected.{Expected}
use Rattle.ctl_text.specs.declared.refusal.Refusal.{Refusal}

-- so many lines are read, none of them bad, and this is left
pub record IsRead (IsBad : List ℕ → Type 0) (Has : List ℕ → Expected → Type 0) (text left : List ℕ) (place : ℕ) : Type 0 where
  pub bad : (k : ℕ) (why : Expected) → IsFirstBad IsBad Has (input_lines left) k why → IsFirstBad IsBad Has (input_lines text) (place + k) why
  pub counted : place + length left ≤ length text

bad_later : (IsBad : List ℕ → Type 0) (Has : List ℕ → Expected → Type 0) (line : List ℕ) (lines : List (List ℕ)) (k n : ℕ) (why : Expected) → (IsBad line → ⊥) → n ≡ k + 1 → IsFirstBad IsBad Has lines k why → IsFirstBad IsBad Has (line ∷ lines) n why
bad_later IsBad Has line lines k n why good e h = record {
  before = line ∷ h.before;
  line = h.line;
  after = h.after;
  split = ap (λ (l : List (List ℕ)). line ∷ l) h.split;
  counted = let c = h.counted in omega (arith, c, e);
  good = All-cons (λ l. IsBad l → ⊥) line h.before good h.good;
  bad = h.bad;
  fault = h.fault;
}

bad_here : (IsBad : List ℕ → Type 0) (Has : List ℕ → Expected → Type 0) (line : List ℕ) (lines : List (List ℕ)) (why : Expected) → IsBad line → Has line why → IsFirstBad IsBad Has (line ∷ lines) 1 why
bad_here IsBad Has line lines why h f = record {
  before = [];
  line = line;
  after = lines;
  split = refl;
  counted = refl;
  good = All-nil (λ l. IsBad l → ⊥);
  bad = h;
  fault = f;
}

-- no line is read yet
pub no_line_read : (IsBad : List ℕ → Type 0) (Has : List ℕ → Expected → Type 0) (text : List ℕ) → IsRead IsBad Has text text 0
no_line_read IsBad Has text = record { bad = λ k why h. let e : 0 + k ≡ k = omega arith in rw e h; counted = omega arith }

-- one more line is read
pub read_more : (IsBad : List ℕ → Type 0) (Has : List ℕ → Expected → Type 0) (text left line rest : List ℕ) (place : ℕ) → IsRead IsBad Has text left place → input_lines left ≡ line ∷ input_lines rest → length rest < length left → (IsBad line → ⊥) → IsRead IsBad Has text rest (place + 1)
read_more IsBad Has text left line rest place h e l good = record {
  bad = λ k why b.
      let next : IsFirstBad IsBad Has (input_lines text) (place + (k + 1)) why =
      h.bad (k + 1) why (rw e (bad_later IsBad Has line (input_lines rest) k (k + 1) why good refl b)) in
      let same : place + 1 + k ≡ place + (k + 1) = omega arith in
      rw same next;
  counted = let c = h.counted in omega (arith, c);
}

-- the next line is refused
pub refused : (IsBad : List ℕ → Type 0) (Has : List ℕ → Expected → Type 0) (text left line rest : List ℕ) (place : ℕ) (why : Refusal) → IsRead IsBad Has text left place → input_lines left ≡ line ∷ input_lines rest → (why ≢ Refusal.NoMemory → IsBad line) → HasFault (Has line) why → IsReason IsBad Has (input_lines text) (stop_at (place + 1) why)
refused IsBad Has text left line rest place (Refusal.Bad fault) h e bad f = h.bad 1 fault (rw e (bad_here IsBad Has line (input_lines rest) fault (bad (λ same. cc)) f))
refused IsBad Has text left line rest place Refusal.NoMemory h e bad f = tt
