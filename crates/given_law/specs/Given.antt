-- The messages that the refused updates of a worker determine.
use Rattle.std.specs.Prelude.{◌≡◌, ◌<◌, ◌≤◌, ℕ, zero, suc, ◌∷◌, ◌++◌, ◌||◌, List, [], All, true, length, nat_lt, if◌then◌else◌}
use Rattle.std.specs.List.Sorted.{IsStrictlyIncreasing}
use Rattle.hash_rows.specs.declared.options.Full.{Full}
use Rattle.hash_rows.specs.declared.options.Full.TheVariants.{Wait}
use Rattle.hash_rows.specs.declared.shape.Push.{Push}
use Rattle.hash_rows.specs.declared.shape.Update.{Update}
use Rattle.hash_rows.specs.Rules.{Rules}
use Rattle.push_history.specs.LagRun.{message_of}
use Rattle.push_history.specs.Told.{messages_before}
use Rattle.push_history.specs.Pushes.{distance_at, is_refused}

-- update n is told where its distance reaches the threshold and it isn't refused
unfoldable pub with_next : Rules → ℕ → ℕ → List Update → List ℕ → ℕ → List Push → List Push
with_next r w T updates refused n messages =
    if nat_lt (distance_at r updates messages n) T || is_refused n refused then messages else messages
    ++ message_of r w updates messages n ∷ []

-- the messages of the first n updates
abbrev pub given_before : Rules → ℕ → ℕ → List Update → List ℕ → ℕ → List Push
given_before r w T updates refused zero = []
given_before r w T updates refused (suc n) = with_next r w T updates refused n (given_before r w T updates refused n)

-- those of all updates
unfoldable pub given_messages : Rules → ℕ → ℕ → List Update → List ℕ → List Push
given_messages r w T updates refused = given_before r w T updates refused (length updates)

-- each refused update is one whose distance reaches the threshold, and a lane's messages were sent before it
pub record MayRefuse (r : Rules) (w T L : ℕ) (full : Full) (updates : List Update) (refused : List ℕ) : Type 0 where
  pub rising : IsStrictlyIncreasing refused
  pub within : All (λ k. k < length updates) refused
  pub far : (k : ℕ) → is_refused k refused ≡ true → T ≤ distance_at r updates (given_messages r w T updates refused) k
  pub full_lane : (k : ℕ) → is_refused k refused ≡ true → L ≤ length (messages_before k (given_messages r w T updates refused))
  pub waiting : full ≡ Wait → refused ≡ []
