-- What the first word says of the command.
use Rattle.std.proofs.Common.{◌≡◌, ◌∙◌, ◌≤◌, ℕ, refl, sym, ap, subst, cond, List, [], ◌∷◌, codes, drop, true, false, true≢false, eq-eqb, get_or, arith}
use Rattle.std.specs.Prelude.{◌==◌, Bool, Option, Some, None, is_some, option_and_then, find}
use Rattle.std.specs.Str.{bytes_eq}
use Rattle.listed.specs.Listed.{Listed}
use Rattle.prefixes.specs.declared.network.Prefix.{Prefix as Network}
use Rattle.hash_rows.specs.OptionTexts.{mode_text, sketch_text}
use Rattle.hash_rows.specs.declared.options.Mode.TheVariants.{Rounds}
use Rattle.hash_rows.specs.declared.options.Options.{Options}
use Rattle.hash_rows.specs.declared.options.Sketch.TheVariants.{CountMin, CountSketch}
use Rattle.words.specs.Grammar.{AreParts, Name, Part, Text, kind_by, value_in}
use Rattle.words.specs.Matches.{IsFlagKept}
use Rattle.words.specs.Names.{names_of}
use Rattle.words.specs.Options.{Gives, GivesEpochs, GivesLoad, GivesPrefix, GivesRun, IsLawfulCommand}
use Rattle.words.specs.Values.{NeedsNumber, ReadsChoice, IsNumberOf}
use Rattle.words.specs.declared.command.Command.{Command}
use Rattle.words.specs.declared.command.Command.TheVariants.{Run, Load, Prefix, Epochs, Audit}
use Rattle.words.specs.declared.names.Verb.TheVariants.{Prefix as PrefixVerb, Epochs as EpochsVerb}
use Rattle.words.proofs.Lawfulness.{are_watched, in_range, lawful}
use Rattle.words.proofs.Texts.{same_bytes}

-- the first letter of the first word, in which commands differ
abbrev letter : List Text → ℕ
letter [] = 0
letter (w ∷ ws) = get_or w 0 0

not_both : {A : Type 0} (words v w : List Text) → (letter v == letter w) ≡ false → words ≡ v → words ≡ w → A
not_both words v w differ e f = absurd (true≢false (sym (eq-eqb _ _ (ap letter (sym e ∙ f))) ∙ differ))

pub run_gives : (words rest : List Text) (c : Command) → words ≡ codes "run" ∷ rest → Gives words c → (o : Options) × (c ≡ Run o) × GivesRun rest o
run_gives words rest (Run o) e g = (o, λ _. Run o, subst (λ (r : List Text). GivesRun r o) (ap (drop 1) (sym g.1 ∙ e)) g.2)
run_gives words rest (Load n k o) e g = not_both words _ _ refl e g.1
run_gives words rest (Prefix o w) e g = not_both words _ _ refl e g.1
run_gives words rest (Epochs n k o) e g = not_both words _ _ refl e g.1
run_gives words rest Audit e g = not_both words _ _ refl e g

pub load_gives : (words rest : List Text) (c : Command) → words ≡ codes "load" ∷ rest → Gives words c
    → (n : ℕ) × (k : ℕ) × (o : Options) × (c ≡ Load n k o) × GivesLoad rest n k o
load_gives words rest (Load n k o) e g = (n, k, o, λ _. Load n k o, subst (λ (r : List Text). GivesLoad r n k o) (ap (drop 1) (sym g.1 ∙ e)) g.2)
load_gives words rest (Run o) e g = not_both words _ _ refl e g.1
load_gives words rest (Prefix o w) e g = not_both words _ _ refl e g.1
load_gives words rest (Epochs n k o) e g = not_both words _ _ refl e g.1
load_gives words rest Audit e g = not_both words _ _ refl e g

pub prefix_gives : (words rest : List Text) (c : Command) → words ≡ codes "prefix" ∷ rest → Gives words c
    → (o : Options) × (w : Listed Network) × (c ≡ Prefix o w) × GivesPrefix rest o w
prefix_gives words rest (Prefix o w) e g = (o, w, λ _. Prefix o w, subst (λ (r : List Text). GivesPrefix r o w) (ap (drop 1) (sym g.1 ∙ e)) g.2)
prefix_gives words rest (Run o) e g = not_both words _ _ refl e g.1
prefix_gives words rest (Load n k o) e g = not_both words _ _ refl e g.1
prefix_gives words rest (Epochs n k o) e g = not_both words _ _ refl e g.1
prefix_gives words rest Audit e g = not_both words _ _ refl e g

pub epochs_gives : (words rest : List Text) (c : Command) → words ≡ codes "epochs" ∷ rest → Gives words c
    → (n : ℕ) × (k : ℕ) × (o : Options) × (c ≡ Epochs n k o) × GivesEpochs rest n k o
epochs_gives words rest (Epochs n k o) e g = (n, k, o, λ _. Epochs n k o, subst (λ (r : List Text). GivesEpochs r n k o) (ap (drop 1) (sym g.1 ∙ e)) g.2)
epochs_gives words rest (Run o) e g = not_both words _ _ refl e g.1
epochs_gives words rest (Load n k o) e g = not_both words _ _ refl e g.1
epochs_gives words rest (Prefix o w) e g = not_both words _ _ refl e g.1
epochs_gives words rest Audit e g = not_both words _ _ refl e g

pub audit_gives : (words rest : List Text) (c : Command) → words ≡ codes "audit" ∷ rest → Gives words c → (c ≡ Audit) × (rest ≡ [])
audit_gives words rest Audit e g = (refl, ap (drop 1) (sym e ∙ g))
audit_gives words rest (Run o) e g = not_both words _ _ refl e g.1
audit_gives words rest (Load n k o) e g = not_both words _ _ refl e g.1
audit_gives words rest (Prefix o w) e g = not_both words _ _ refl e g.1
audit_gives words rest (Epochs n k o) e g = not_both words _ _ refl e g.1

pub run_once : (words rest : List Text) (c : Command) → words ≡ codes "run" ∷ rest → ((d : Options) → GivesRun rest d → c ≡ Run d) → (d : Command) → Gives words d → c ≡ d
run_once words rest c e once d g = let r = run_gives words rest d e g in once r.0 r.2 ∙ sym r.1

pub load_once : (words rest : List Text) (c : Command) → words ≡ codes "load" ∷ rest → ((n k : ℕ) → (d : Options) → GivesLoad rest n k d → c ≡ Load n k d)
    → (d : Command) → Gives words d → c ≡ d
load_once words rest c e once d g = let r = load_gives words rest d e g in once r.0 r.1 r.2 r.4 ∙ sym r.3

pub prefix_once : (words rest : List Text) (c : Command) → words ≡ codes "prefix" ∷ rest → ((d : Options) (w : Listed Network) → GivesPrefix rest d w → c ≡ Prefix d w)
    → (d : Command) → Gives words d → c ≡ d
prefix_once words rest c e once d g = let r = prefix_gives words rest d e g in once r.0 r.1 r.3 ∙ sym r.2

pub epochs_once : (words rest : List Text) (c : Command) → words ≡ codes "epochs" ∷ rest → ((n k : ℕ) → (d : Options) → GivesEpochs rest n k d → c ≡ Epochs n k d)
    → (d : Command) → Gives words d → c ≡ d
epochs_once words rest c e once d g = let r = epochs_gives words rest d e g in once r.0 r.1 r.2 r.4 ∙ sym r.3

pub audit_once : (words rest : List Text) (c : Command) → words ≡ codes "audit" ∷ rest → (c ≡ Audit) × (rest ≡ []) → (d : Command) → Gives words d → c ≡ d
audit_once words rest c e is d g = is.0 ∙ sym (audit_gives words rest d e g).0

-- what a flag is read as, from what is kept of it
pub kept_flag : (stands : Bool) (kept : Option Text) (read : Bool) → IsFlagKept stands kept → (kept ≡ None → read ≡ false) → (kept ≡ Some (codes "true") → read ≡ true)
    → (kept ≡ Some (codes "false") → read ≡ false) → read ≡ stands
kept_flag stands None read is none there gone = none (λ i. None) ∙ sym is
kept_flag true (Some text) read is none there gone = there (ap (λ (t : Text). Some t) is)
kept_flag false (Some text) read is none there gone = gone (ap (λ (t : Text). Some t) is)

none_is : (o : Option Text) → is_some o ≡ false → o ≡ None
none_is None e = λ i. None
none_is (Some text) e = absurd (true≢false e)

needed : (low high : ℕ) (v : Option Text) (n : ℕ) → NeedsNumber low high v n → (low ≤ n) × (n ≤ high)
needed low high None n p = absurd p
needed low high (Some text) n p = (p.1, p.2)

-- a command that lacks the name gives it no value
unnamed : (names : List Name) (t : Text) (parts : List Part) → AreParts names parts → kind_by names t ≡ None → value_in t parts ≡ None
unnamed names t [] known e = refl
unnamed names t (p ∷ ps) known e = go (bytes_eq p.name t) refl (unnamed names t ps known.1 e)
  where
    go : (hit : Bool) → bytes_eq p.name t ≡ hit → value_in t ps ≡ None
        → option_and_then (λ (q : Part). q.value) (cond hit (Some p) (find (λ q. bytes_eq q.name t) ps)) ≡ None
    go true is ih = absurd (true≢false (ap is_some (sym known.0 ∙ ap (kind_by names) (same_bytes p.name t is) ∙ e)))
    go false is ih = ih

-- the commands that the words give are lawful
pub run_lawful : (rest : List Text) (c : Command) → (o : Options) × (c ≡ Run o) × GivesRun rest o → IsLawfulCommand c
run_lawful rest c r = subst IsLawfulCommand (sym r.1) (lawful CountMin _ r.2.0 r.0 (none_is _) r.2.2)

pub load_lawful : (rest : List Text) (c : Command) → (n : ℕ) × (k : ℕ) × (o : Options) × (c ≡ Load n k o) × GivesLoad rest n k o → IsLawfulCommand c
load_lawful rest c r = subst IsLawfulCommand (sym r.3) (lawful CountMin _ r.4.0 r.2 (none_is _) r.4.2, (needed 0 1048576 _ r.0 r.4.3).1)

pub prefix_lawful : (rest : List Text) (c : Command) → (o : Options) × (w : Listed Network) × (c ≡ Prefix o w) × GivesPrefix rest o w → IsLawfulCommand c
prefix_lawful rest c r =
    let parts = r.3.0 in
    let gives = r.3.2 in
    let unsaid = λ (t : Text) (out : kind_by (names_of PrefixVerb) t ≡ None). unnamed (names_of PrefixVerb) t parts r.3.1.known out in
    subst IsLawfulCommand (sym r.2) (
      lawful CountMin None parts r.0 (λ e. refl) gives,
      subst (λ (v : Option Text). ReadsChoice sketch_text CountMin v r.0.sketch) (unsaid (codes "sketch") refl) gives.sketch,
      subst (λ (v : Option Text). ReadsChoice mode_text Rounds v r.0.mode) (unsaid (codes "mode") refl) gives.mode,
      are_watched _ r.1.items r.3.3,
    )

pub epochs_lawful : (rest : List Text) (c : Command) → (n : ℕ) × (k : ℕ) × (o : Options) × (c ≡ Epochs n k o) × GivesEpochs rest n k o → IsLawfulCommand c
epochs_lawful rest c r =
    let parts = r.4.0 in
    let gives = r.4.2 in
    let unsaid = λ (t : Text) (out : kind_by (names_of EpochsVerb) t ≡ None). unnamed (names_of EpochsVerb) t parts r.4.1.known out in
    let size = needed 256 16777216 _ r.0 r.4.3 in
    let least = in_range 1 1099511627776 1024 _ r.1 (omega arith) (omega arith) r.4.4 in
    subst IsLawfulCommand (sym r.3) (record {
      lawful = lawful CountSketch None parts r.2 (λ e. refl) gives;
      sketch = subst (λ (v : Option Text). ReadsChoice sketch_text CountSketch v r.2.sketch) (unsaid (codes "sketch") refl) gives.sketch;
      watch = gives.watch;
      readers = subst (λ (v : Option Text). IsNumberOf 0 4 0 v r.2.readers) (unsaid (codes "readers") refl) gives.readers;
      asks = subst (λ (v : Option Text). IsNumberOf 0 1024 0 v r.2.asks) (unsaid (codes "asks") refl) gives.asks;
      some_packets = size.0;
      packets = size.1;
      some_change = least.0;
      change = least.1;
    })

pub audit_lawful : (rest : List Text) (c : Command) → (c ≡ Audit) × (rest ≡ []) → IsLawfulCommand c
audit_lawful rest c r = subst IsLawfulCommand (sym r.0) tt
