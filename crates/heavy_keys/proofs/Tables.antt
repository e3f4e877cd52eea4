-- Look-ups of a key in a map.
use Rattle.std.proofs.Common.{◌≡◌, ◌∙◌, refl, ℕ, zero, suc, Bool, true, false, List, [], ◌∷◌, slice_get, Option, Some, None, ap, ap₂, subst, ◌||◌, is_some}
use Rattle.std.specs.List.{list_any}
use Rattle.std.specs.Map.{keys_of, lookup}
use Rattle.std.proofs.lemmas.Map.Made.{is_some-lookup}
use Rattle.packet_key.specs.declared.key.FlowKey.{FlowKey}
use Rattle.packet_key.specs.contracts.key.FlowKeyEq.TheImpl.Laws.{laws-law}
use Rattle.push_history.specs.LiveHeavy.{same_key, is_among}

listed_alike : (key : FlowKey) (keys : List FlowKey) → list_any (same_key key) keys ≡ is_among keys key
listed_alike key [] = refl
listed_alike key (k ∷ ks) = ap₂ (λ a b. a || b) (laws-law.symm key k) (listed_alike key ks)

-- a look-up finds a key where it is among the map's keys
pub looked_up : {X : Type 0} (key : FlowKey) (es : List (FlowKey × X)) → is_some (lookup (same_key key) es) ≡ is_among (keys_of es) key
looked_up key es = is_some-lookup (same_key key) es ∙ listed_alike key (keys_of es)

-- an entry whose key compares equal to a key is found by it
pub found_at : {X : Type 0} (es : List (FlowKey × X)) (i : ℕ) (k : FlowKey) (v : X) (key : FlowKey) → Some (k, v) ≡ slice_get es i → same_key k key ≡ true → is_among (keys_of es) key ≡ true
found_at [] i k v key at same = absurd (cc)
found_at (e ∷ es) zero k v key at same =
    let here : k ≡ e.0 = ap (λ (o : Option _). elim o [ None ↦ k | Some p ↦ p.0 ]) at in
    subst (λ x. (same_key x key || is_among (keys_of es) key) ≡ true) here (ap (λ b. b || is_among (keys_of es) key) same)
found_at (e ∷ es) (suc i) k v key at same = later (same_key e.0 key) (is_among (keys_of es) key) (found_at es i k v key at same)
  where
    later : (a b : Bool) → b ≡ true → (a || b) ≡ true
    later true b h = refl
    later false b h = h
