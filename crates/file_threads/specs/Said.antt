-- What a writer was given.
use Rattle.std.specs.Prelude.{ℕ, List, [], ◌∷◌, Option}
use Rattle.ctl_text.specs.Writing.{IsBegun}

-- these texts, one behind the other: of each there stands as much as the writer took, and nothing else
pub data AreSaid : (before after : Option (List ℕ)) → (texts : List (List ℕ)) → Type 0 where
  said_none : (writer : Option (List ℕ)) → AreSaid writer writer []
  said_next : (before between after : Option (List ℕ)) (text : List ℕ) (texts : List (List ℕ)) → IsBegun before between text
      → AreSaid between after texts → AreSaid before after (text ∷ texts)
