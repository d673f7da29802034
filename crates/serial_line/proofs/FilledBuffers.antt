-- What stands at the front of a buffer that is filled piece by piece.
use Rattle.std.proofs.Common.{◌≡◌, ℕ, ◌+◌, ◌-◌, ◌≤◌, List, ◌++◌, length, take, ap, ◌∙◌}
use Rattle.std.proofs.Math.Seq.{take-append-add}
use Rattle.std.proofs.lemmas.List.{length-take-le, take-append-le}
use borrow.Rule.Slice.PartMut.{put_mid, post_of}

-- after the front of the room comes the front of the piece
front : (a n k : ℕ) (room piece : List ℕ) → a ≤ length room → n ≤ length piece → take (a + n) (put_mid a k room piece) ≡ take a room ++ take n piece
front a n k room piece in_room in_piece =
    let e : take (length (take a room) + n) (take a room ++ (piece ++ post_of a k room)) ≡ take a room ++ take n (piece ++ post_of a k room) = take-append-add (take a room) (piece ++ post_of a k room) n in
    rw length-take-le at e ∙ ap (λ (x : List ℕ). take a room ++ x) (take-append-le n piece (post_of a k room) in_piece)
