-- What a private sketch stands for.
use Rattle.std.specs.Prelude.{◌≡◌, ◌<◌, ◌≤◌, ℕ, ℤ, List, [], ◌∷◌, ◌++◌, ◌+◌, ◌-◌, length, slice_get, slice_index_or, Bool, false, Option, Some, None, MatchOption, refl}
use Rattle.std.specs.Coded.{Coded, code_by, coded×, coded_ℕ, coded_bool, coded_list, coded_option}
use Rattle.hash_rows.specs.declared.shape.Update.{Update}
use Rattle.hash_rows.specs.declared.shape.Push.{Push}
use Rattle.hash_rows.specs.Rules.{Rules}
use Rattle.push_history.specs.Whole.{whole_of}
use Rattle.push_history.specs.Told.{told_of}
use Rattle.push_history.specs.Pushes.{ArePushes, is_refused}

-- what is held of each cell; the threshold; for how many updates there is room, and how many were counted; the cell
-- that is due; for each update whether it was refused
pub record PrivateView (Held : Type 0) : Type 0 where
  pub held : List Held
  pub threshold : ℕ
  pub room : ℕ
  pub counted : ℕ
  pub due : Option ℕ
  pub bits : List Bool

-- how many updates were counted, by the changes of cells that are left: one that is due is counted, and no change yet
abbrev pub counted_of : ℕ → ℕ → Option ℕ → ℕ
counted_of room left None = room - left
counted_of room left (Some _) = room - left + 1

-- how it is stored
abbrev pub private_code : {Held : Type 0} → Coded Held → Coded (PrivateView Held)
private_code {Held} code =
    code_by (List Held × (ℕ × (ℕ × (ℕ × (Option ℕ × List Bool)))))
    (coded× (coded_list code) (coded× coded_ℕ (coded× coded_ℕ (coded× coded_ℕ (coded× (coded_option coded_ℕ) (coded_list coded_bool))))))
    (λ s. (s.held, (s.threshold, (s.room, (s.counted, (s.due, s.bits))))))
    (λ p. record { held = p.0; threshold = p.1.0; room = p.1.1.0; counted = p.1.1.1.0; due = p.1.1.1.1.0; bits = p.1.1.1.1.1 }) (λ _. refl)

-- what is held of the cell stands for these two values
abbrev pub StandsAt : {Held : Type 0} → (Held → ℤ → ℤ → Type 0) → List Held → ℕ → ℤ → ℤ → Type 0
StandsAt {Held} stands held cell told whole = (h : Held) → slice_get held cell ≡ Some h → stands h told whole

-- the answer is what joins the told value to the whole one, exactly where their distance reaches the threshold
abbrev pub Owes : Rules → ℕ → ℤ → ℤ → Option ℤ → Type 0
Owes r threshold told whole answer =
    MatchOption answer (r.distance told whole < threshold) (λ amount. (threshold ≤ r.distance told whole) × (amount ≡ r.gap told whole))

-- the last update, of this cell, is counted, and whether it is sent or refused is open
pub record Waits (r : Rules) (threshold : ℕ) (updates : List Update) (messages : List Push) (refused : List ℕ) (cell : ℕ) : Type 0 where
  pub before : List Update
  pub last : Update
  pub parts : updates ≡ before ++ last ∷ []
  pub its_cell : last.cell ≡ cell
  pub pushes : ArePushes r threshold before messages refused
  pub far : threshold ≤ r.distance (told_of r cell messages) (whole_of r cell updates)

-- the sketch has counted these updates; these messages were sent and these updates refused
pub record StandsFor {Held : Type 0} (stands : Held → ℤ → ℤ
    → Type 0) (r : Rules) (p : PrivateView Held) (updates : List Update) (messages : List Push) (refused : List ℕ) : Type 0 where
  pub all_counted : p.counted ≡ length updates
  pub cells : (cell : ℕ) → StandsAt stands p.held cell (told_of r cell messages) (whole_of r cell updates)
  pub marks : (k : ℕ) → slice_index_or p.bits k false ≡ is_refused k refused
  pub pushes : MatchOption p.due (ArePushes r p.threshold updates messages refused) (Waits r p.threshold updates messages refused)
