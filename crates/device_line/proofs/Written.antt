-- Octets that go piece by piece, through a ring or to a writer, and those that flow turn by turn.
use Rattle.std.proofs.Common.{◌≡◌, ◌≢◌, ℕ, ◌≤◌, List, [], ◌∷◌, ◌++◌, Option, None, Some, refl, ap, sym, subst, ◌∙◌, append_assoc, append-nil, take, drop, length, ◌-◌, take-append-drop, arith}
use Rattle.std.proofs.lemmas.List.{take_rest, length-append}
use Rattle.std.proofs.KnownBytes.{Appends-nil, Appends-trans, Consumes-nil, Consumes-trans}
use Rattle.std.specs.Io.KnownBytes.{Appends, Consumes, Keeps}
use Rattle.device_line.specs.Flows.{FlowsIn, FlowsOut}

-- no more than none is none
pub none_left : (xs : List ℕ) → length xs ≤ 0 → xs ≡ []
none_left [] few = refl
none_left (x ∷ xs) few = absurd (omega (arith, few))

abbrev or_else : {A : Type 0} → Option A → A → A
or_else None y = y
or_else (Some x) y = x

-- what isn't that value isn't there as that value
pub not_some : {A : Type 0} (x y : A) → x ≢ y → Some x ≢ Some y
not_some x y differ same = differ (ap (λ o. or_else o x) same)

-- the rest of a list is no longer than all of it
rest_few : (all done rest : List ℕ) → all ≡ done ++ rest → length rest ≤ length all
rest_few all done rest split = let both = length-append done rest in let same = ap length split in omega (arith, both, same)

-- what stays as it was grows by nothing
kept_none : (old new : Option (List ℕ)) → Keeps old new → Appends old new []
kept_none None new kept = tt
kept_none (Some xs) None kept = kept
kept_none (Some xs) (Some ys) kept = kept ∙ sym (append-nil xs)

-- of these octets all but the rest are written
pub record IsPart (octets rest : List ℕ) (old new : Option (List ℕ)) : Type 0 where
  pub done : List ℕ
  pub split : octets ≡ done ++ rest
  pub written : Appends old new done

-- nothing is written yet
pub begins : (octets : List ℕ) (old : Option (List ℕ)) → IsPart octets octets old old
begins octets old = record { done = []; split = refl; written = Appends-nil old }

-- the next n are written
pub goes_on : (octets rest : List ℕ) (n : ℕ) (old mid new : Option (List ℕ)) → IsPart octets rest old mid → Appends mid new (take n rest)
    → IsPart octets (take (length rest - n) (drop n rest)) old new
goes_on octets rest n old mid new p more = subst (λ (l : List ℕ). IsPart octets l old new) (sym (take_rest rest n)) (record {
  done = p.done ++ take n rest;
  split = p.split ∙ ap (λ (l : List ℕ). p.done ++ l) (sym (take-append-drop n rest)) ∙ sym (append_assoc p.done (take n rest) (drop n rest));
  written = Appends-trans old mid new p.done (take n rest) p.written more;
})

-- a write that failed wrote nothing
pub kept_part : (octets rest : List ℕ) (old mid new : Option (List ℕ)) → IsPart octets rest old mid → Keeps mid new → IsPart octets rest old new
kept_part octets rest old mid new p kept = record {
  done = p.done ++ [];
  split = p.split ∙ ap (λ (l : List ℕ). l ++ rest) (sym (append-nil p.done));
  written = Appends-trans old mid new p.done [] p.written (kept_none mid new kept);
}

-- all but the rest flowed out
pub some_out : (octets rest : List ℕ) (old new : Option (List ℕ)) → IsPart octets rest old new → FlowsOut (length octets) [] octets old new
some_out octets rest old new p = record {
  octets = p.done;
  lost = rest;
  few = rest_few octets p.done rest p.split;
  taken = p.split;
  written = p.written;
}

-- without a rest, all of them
pub all_out : (octets rest : List ℕ) (old new : Option (List ℕ)) → IsPart octets rest old new → rest ≡ [] → FlowsOut 0 [] octets old new
all_out octets rest old new p none = record {
  octets = p.done;
  lost = [];
  few = omega arith;
  taken = subst (λ (l : List ℕ). octets ≡ p.done ++ l) none p.split;
  written = p.written;
}

-- a piece that came out of the ring flows on
pub piece_out : (most few : ℕ) (before after piece : List ℕ) (old new : Option (List ℕ)) → FlowsOut few [] piece old new
    → after ≡ before ++ piece → few ≤ most → FlowsOut most before after old new
piece_out most few before after piece old new p came bound = record {
  octets = p.octets;
  lost = p.lost;
  few = let short = p.few in omega (arith, short, bound);
  taken = came ∙ ap (λ (l : List ℕ). before ++ l) p.taken;
  written = p.written;
}

-- nothing has flowed out
pub none_out : (most : ℕ) (octets : List ℕ) (old : Option (List ℕ)) → FlowsOut most octets octets old old
none_out most octets old = record { octets = []; lost = []; few = omega arith; taken = sym (append-nil octets); written = Appends-nil old }

-- where no octet came out of the ring, none has flowed out
pub none_taken : (most : ℕ) (before mid after piece : List ℕ) (old : Option (List ℕ)) → mid ≡ before → after ≡ mid ++ piece → length piece ≤ 0
    → FlowsOut most before after old old
none_taken most before mid after piece old looked came few =
    let same : after ≡ before = came ∙ ap (λ (l : List ℕ). mid ++ l) (none_left piece few) ∙ append-nil mid ∙ looked in
    subst (λ (l : List ℕ). FlowsOut most before l old old) (sym same) (none_out most before old)

-- first one flows out, and then the other
pub both_out : (most : ℕ) (a b c : List ℕ) (old mid new : Option (List ℕ)) → FlowsOut 0 a b old mid → FlowsOut most b c mid new
    → FlowsOut most a c old new
both_out most a b c old mid new p q =
    let whole : b ≡ a ++ p.octets = p.taken ∙ ap (λ (l : List ℕ). a ++ (p.octets ++ l)) (none_left p.lost p.few) ∙ ap (λ (l : List ℕ). a ++ l) (append-nil p.octets) in
    record {
      octets = p.octets ++ q.octets;
      lost = q.lost;
      few = q.few;
      taken = q.taken ∙ ap (λ (l : List ℕ). l ++ (q.octets ++ q.lost)) whole ∙ append_assoc a p.octets (q.octets ++ q.lost)
          ∙ ap (λ (l : List ℕ). a ++ l) (sym (append_assoc p.octets q.octets q.lost));
      written = Appends-trans old mid new p.octets q.octets p.written q.written;
    }

-- of these octets all but the rest are in the ring
pub record IsPut (octets rest before after : List ℕ) : Type 0 where
  pub done : List ℕ
  pub split : octets ≡ done ++ rest
  pub put : after ≡ before ++ done

-- none is yet
pub begins_in : (octets before : List ℕ) → IsPut octets octets before before
begins_in octets before = record { done = []; split = refl; put = sym (append-nil before) }

-- the next are put in
pub goes_in : (octets rest left next before mid after : List ℕ) → IsPut octets rest before mid → next ++ left ≡ rest → after ≡ mid ++ next
    → IsPut octets left before after
goes_in octets rest left next before mid after p parts more = record {
  done = p.done ++ next;
  split = p.split ∙ ap (λ (l : List ℕ). p.done ++ l) (sym parts) ∙ sym (append_assoc p.done next left);
  put = more ∙ ap (λ (l : List ℕ). l ++ next) p.put ∙ append_assoc before p.done next;
}

-- all but the rest flowed in
pub some_in : (octets rest before after : List ℕ) → IsPut octets rest before after
    → FlowsIn (length octets) before after (Some octets) (Some [])
some_in octets rest before after p = record {
  octets = p.done;
  lost = rest;
  few = rest_few octets p.done rest p.split;
  given = p.split ∙ sym (append-nil (p.done ++ rest));
  put = p.put;
}

-- without a rest, all of them
pub all_in : (octets rest before after : List ℕ) → IsPut octets rest before after → rest ≡ []
    → FlowsIn 0 before after (Some octets) (Some [])
all_in octets rest before after p none = record {
  octets = p.done;
  lost = [];
  few = omega arith;
  given = p.split ∙ ap (λ (l : List ℕ). p.done ++ l) none ∙ sym (append-nil (p.done ++ []));
  put = p.put;
}

-- what a read gave flows on
pub piece_in : (most few : ℕ) (before after piece : List ℕ) (old new : Option (List ℕ)) → FlowsIn few before after (Some piece) (Some [])
    → Consumes old new piece → few ≤ most → FlowsIn most before after old new
piece_in most few before after piece old new p came bound = record {
  octets = p.octets;
  lost = p.lost;
  few = let short = p.few in omega (arith, short, bound);
  given = subst (λ (l : List ℕ). Consumes old new l) (p.given ∙ append-nil (p.octets ++ p.lost)) came;
  put = p.put;
}

-- a read that gave nothing lets nothing flow
pub empty_in : (most : ℕ) (octets : List ℕ) (old new : Option (List ℕ)) → Consumes old new [] → FlowsIn most octets octets old new
empty_in most octets old new none = record { octets = []; lost = []; few = omega arith; given = none; put = sym (append-nil octets) }

-- nothing has flowed
pub none_in : (most : ℕ) (octets : List ℕ) (old : Option (List ℕ)) → FlowsIn most octets octets old old
none_in most octets old = empty_in most octets old old (Consumes-nil old)

-- a read that failed lets nothing flow
pub kept_in : (most : ℕ) (octets : List ℕ) (old new : Option (List ℕ)) → Keeps old new → FlowsIn most octets octets old new
kept_in most octets None new kept = empty_in most octets None new tt
kept_in most octets (Some xs) None kept = absurd kept
kept_in most octets (Some xs) (Some ys) kept = empty_in most octets (Some xs) (Some ys) (sym kept)

-- first one flows in, and then the other
pub both_in : (most : ℕ) (a b c : List ℕ) (old mid new : Option (List ℕ)) → FlowsIn 0 a b old mid → FlowsIn most b c mid new
    → FlowsIn most a c old new
both_in most a b c old mid new p q =
    let whole : Consumes old mid p.octets = subst (λ (l : List ℕ). Consumes old mid l)
    (ap (λ (l : List ℕ). p.octets ++ l) (none_left p.lost p.few) ∙ append-nil p.octets) p.given in
    record {
      octets = p.octets ++ q.octets;
      lost = q.lost;
      few = q.few;
      given = subst (λ (l : List ℕ). Consumes old new l) (sym (append_assoc p.octets q.octets q.lost))
          (Consumes-trans old mid new p.octets (q.octets ++ q.lost) whole q.given);
      put = q.put ∙ ap (λ (l : List ℕ). l ++ q.octets) p.put ∙ append_assoc a p.octets q.octets;
    }

-- where nothing flows behind it
pub still_in : (most : ℕ) (a b c : List ℕ) (old new : Option (List ℕ)) → FlowsIn 0 a b old new → c ≡ b → FlowsIn most a c old new
still_in most a b c old new p same = subst (λ (l : List ℕ). FlowsIn most a l old new) (sym same) (both_in most a b b old new new p (none_in most b new))
