-- What octets say, more octets behind them say too.
use Rattle.std.proofs.Common.{◌≡◌, ◌≢◌, ℕ, zero, suc, ◌+◌, ◌/◌, ◌%◌, ◌==◌, Bool, true, false, List, [], ◌∷◌, ◌++◌, Option, None, Some, if◌then◌else◌, refl, ◌∙◌}
use Rattle.std.specs.Prelude.{nat_lt, slice_get}
use Rattle.mux_frame.specs.Spelling.{flag, most_info}
use Rattle.mux_frame.specs.Judging.{Header, Verdict, unfinished, refused, fits, kind_in, header_of, by_second_length, by_length, by_kind, by_control, by_header, by_flag, by_end, by_rest, verdict_on}
use Rattle.mux_frame.specs.Deframing.{decision_on}
use Rattle.mux_frame.specs.declared.frame.Kind.{Kind}

-- an octet that hasn't come may come; one that has come stays
data Later : Option ℕ → Option ℕ → Type 0 where
  comes : (o : Option ℕ) → Later None o
  stays : (o : Option ℕ) → Later o o

later_octet : (t x : List ℕ) (i : ℕ) → Later (slice_get t i) (slice_get (t ++ x) i)
later_octet [] x i = comes (slice_get x i)
later_octet (y ∷ t) x zero = stays (Some y)
later_octet (y ∷ t) x (suc i) = later_octet t x i

-- what is unfinished may become anything; a verdict stays
data Stands : Verdict → Verdict → Type 0 where
  opens : (v : Verdict) → Stands unfinished v
  keeps : (v : Verdict) → Stands v v

flag_stands : (h : Header) (a b : Option ℕ) → Later a b → Stands (by_flag h a) (by_flag h b)
flag_stands h _ _ (comes b) = opens (by_flag h b)
flag_stands h _ _ (stays a) = keeps (by_flag h a)

check_stands : (h : Header) (e : Bool) (a b : Option ℕ) → Later a b → Stands (if e then by_flag h a else refused) (if e then by_flag h b else refused)
check_stands h true a b l = flag_stands h a b l
check_stands h false a b l = keeps refused

end_stands : (h : Header) (a b c d : Option ℕ) → Later a b → Later c d → Stands (by_end h a c) (by_end h b d)
unfolding by_end
end_stands h _ _ c d (comes b) m = opens (by_end h b d)
end_stands h _ _ c d (stays None) m = opens unfinished
end_stands h _ _ c d (stays (Some x)) m = check_stands h (x == h.check) c d m

rest_stands : (t x : List ℕ) (v : Verdict) → Stands (by_rest t v) (by_rest (t ++ x) v)
rest_stands t x unfinished = opens unfinished
rest_stands t x refused = keeps refused
rest_stands t x (fits h) = end_stands h _ _ _ _ (later_octet t x (h.size + h.info_len)) (later_octet t x (h.size + h.info_len + 1))

both_stand : (t x : List ℕ) (v w : Verdict) → Stands v w → Stands (by_rest t v) (by_rest (t ++ x) w)
both_stand t x _ _ (opens w) = opens (by_rest (t ++ x) w)
both_stand t x _ _ (keeps v) = rest_stands t x v

second_stands : (most x y : ℕ) (k : Kind) (l : ℕ) (a b : Option ℕ) → Later a b → Stands (by_second_length most x y k l a) (by_second_length most x y k l b)
second_stands most x y k l _ _ (comes b) = opens (by_second_length most x y k l b)
second_stands most x y k l _ _ (stays a) = keeps (by_second_length most x y k l a)

length_at : (most x y : ℕ) (k : Kind) (l : ℕ) (p q : Bool) (a b : Option ℕ) → Later a b → Stands (if p then refused else (if q then fits (header_of x y k (l / 2) (l ∷ [])) else by_second_length most x y k l a)) (if p then refused else (if q then fits (header_of x y k (l / 2) (l ∷ [])) else by_second_length most x y k l b))
length_at most x y k l true q a b m = keeps refused
length_at most x y k l false true a b m = keeps (fits (header_of x y k (l / 2) (l ∷ [])))
length_at most x y k l false false a b m = second_stands most x y k l a b m

length_stands : (most x y : ℕ) (k : Kind) (a b c d : Option ℕ) → Later a b → Later c d → Stands (by_length most x y k a c) (by_length most x y k b d)
length_stands most x y k _ _ c d (comes b) m = opens (by_length most x y k b d)
length_stands most x y k _ _ c d (stays None) m = opens unfinished
length_stands most x y k _ _ c d (stays (Some l)) m = length_at most x y k l (nat_lt most (l / 2)) (l % 2 == 1) c d m

kind_stands : (n1 x y : ℕ) (o : Option Kind) (a b c d : Option ℕ) → Later a b → Later c d → Stands (by_kind n1 x y o a c) (by_kind n1 x y o b d)
kind_stands n1 x y None a b c d l m = keeps refused
kind_stands n1 x y (Some k) a b c d l m = length_stands (most_info n1 k) x y k a b c d l m

control_stands : (n1 x : ℕ) (p q a b c d : Option ℕ) → Later p q → Later a b → Later c d → Stands (by_control n1 x p a c) (by_control n1 x q b d)
control_stands n1 x _ _ a b c d (comes q) l m = opens (by_control n1 x q b d)
control_stands n1 x _ _ a b c d (stays None) l m = opens unfinished
control_stands n1 x _ _ a b c d (stays (Some y)) l m = kind_stands n1 x y (kind_in y) a b c d l m

address_at : (n1 x : ℕ) (e f : Bool) (p q a b c d : Option ℕ) → Later p q → Later a b → Later c d → Stands (if e then (if f then by_control n1 x p a c else refused) else refused) (if e then (if f then by_control n1 x q b d else refused) else refused)
address_at n1 x true true p q a b c d k l m = control_stands n1 x p q a b c d k l m
address_at n1 x true false p q a b c d k l m = keeps refused
address_at n1 x false f p q a b c d k l m = keeps refused

header_stands : (n1 : ℕ) (r s p q a b c d : Option ℕ) → Later r s → Later p q → Later a b → Later c d → Stands (by_header n1 r p a c) (by_header n1 s q b d)
unfolding by_header
header_stands n1 _ _ p q a b c d (comes s) k l m = opens (by_header n1 s q b d)
header_stands n1 _ _ p q a b c d (stays None) k l m = opens unfinished
header_stands n1 _ _ p q a b c d (stays (Some x)) k l m = address_at n1 x (x % 2 == 1) (nat_lt (x / 4) 62) p q a b c d k l m

verdict_stands : (n1 : ℕ) (t x : List ℕ) → Stands (verdict_on n1 t) (verdict_on n1 (t ++ x))
unfolding verdict_on
verdict_stands n1 t x = both_stand t x _ _ (header_stands n1 _ _ _ _ _ _ _ _ (later_octet t x 0) (later_octet t x 1) (later_octet t x 2) (later_octet t x 3))

decision_at : (n1 : ℕ) (t x : List ℕ) (b : Bool) → Stands (if b then verdict_on n1 t else refused) (if b then verdict_on n1 (t ++ x) else refused)
decision_at n1 t x true = verdict_stands n1 t x
decision_at n1 t x false = keeps refused

decision_stands : (n1 : ℕ) (u x : List ℕ) → Stands (decision_on n1 u) (decision_on n1 (u ++ x))
decision_stands n1 [] x = opens (decision_on n1 x)
decision_stands n1 (y ∷ t) x = decision_at n1 t x (y == flag)

stands_same : (v w : Verdict) → Stands v w → v ≢ unfinished → v ≡ w
stands_same _ _ (opens w) h = absurd (h refl)
stands_same _ _ (keeps v) h = refl

-- a decision on octets is the decision on them and more
pub decision_later : (n1 : ℕ) (u x : List ℕ) (v : Verdict) → v ≡ decision_on n1 u → v ≢ unfinished → v ≡ decision_on n1 (u ++ x)
decision_later n1 u x v e h = e ∙ stands_same _ _ (decision_stands n1 u x) (λ k. h (e ∙ k))
