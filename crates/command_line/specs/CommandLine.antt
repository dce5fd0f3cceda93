-- Command lines: what the words after the program's name ask for, defined without reference to clap.
use Rattle.std.specs.Prelude.{◌≡◌, ◌&&◌, ◌==◌, ◌%◌, ℕ, Bool, All, List, [], ◌∷◌, Option, Some, None, if◌then◌else◌, codes, map, nat_le, option_and_then, option_map}
use Rattle.std.specs.List.{slice_split}
use Rattle.std.specs.Str.{IsUtf8}
use Rattle.ascii_scan.specs.Numeral.{numeral, decimal}
use Rattle.seq_enum.specs.Alphabet.{is_pool}
use Rattle.rule_table.specs.Header.{Header, learnt_header, version_with}
use Rattle.command_line.specs.Words.{Text, Given, IsCommand, value_of}

-- an image's base is a multiple of 4 up to 2 ^ 28
abbrev pub is_base : ℕ → Bool
is_base b = b % 4 == 0 && nat_le b 268435456

-- the base that an option's value gives, and 0 without one
abbrev pub base_of : Option Text → Option ℕ
base_of None = Some 0
base_of (Some v) = option_and_then (λ b. if is_base b then Some b else None) (numeral v)

-- the most steps of a trace are 1,000,000
abbrev pub steps_of : Text → Option ℕ
steps_of v = option_and_then (λ n. if nat_le n 1000000 then Some n else None) (numeral v)

-- a byte is at most 255
abbrev pub byte_of : Text → Option ℕ
byte_of v = option_and_then (λ n. if nat_le n 255 then Some n else None) (numeral v)

-- the windows of a demonstration are from 1 to 20,000
abbrev pub windows_of : Text → Option ℕ
windows_of v = option_and_then (λ n. if nat_le 1 n && nat_le n 20000 then Some n else None) (numeral v)

-- the list of all these values, or none if one of them is none
abbrev pub all_given : {A : Type 0} → List (Option A) → Option (List A)
all_given [] = Some []
all_given (v ∷ vs) = option_and_then (λ w. option_map (λ ws. w ∷ ws) (all_given vs)) v

-- the number from `least` to `greatest` that an option's value gives, and `other` without one
abbrev pub number_from : (least greatest other : ℕ) → Option Text → Option ℕ
number_from least greatest other None = Some other
number_from least greatest other (Some v) = option_and_then (λ n. if nat_le least n && nat_le n greatest then Some n else None) (numeral v)

-- the parts of a text between its commas (44)
abbrev pub between_commas : Text → List Text
between_commas v = slice_split (λ b. b == 44) v

-- a pool is decimal numerals, separated by single commas; without a value it is the default one
abbrev pub pool_of : Option Text → Option (List ℕ)
pool_of None = Some (0 ∷ 1 ∷ 2 ∷ 4 ∷ 8 ∷ 16 ∷ 24 ∷ 31 ∷ 255 ∷ [])
pool_of (Some v) = option_and_then (λ ns. if is_pool ns then Some ns else None) (all_given (map decimal (between_commas v)))

-- the learner's settings from these parts, which are the header of its table before costs are read; none if one of the parts is none
abbrev pub settings_by : (version : ℕ) → (regs left budget seed scratch : Option ℕ) → Option (List ℕ) → Option Header
settings_by version regs left budget seed scratch pool = option_and_then (λ r. option_and_then (λ l. option_and_then (λ b. option_and_then (λ s. option_and_then (λ c.
    option_map (λ p. record (learnt_header r l b s c p None) { version = version }) pool) scratch) seed) budget) left) regs

-- the settings by the values of the options
abbrev pub settings_of : (Text → Option Text) → Option Header
settings_of value = settings_by (version_with (value (codes "costs")))
    (number_from 1 4 3 (value (codes "regs")))
    (number_from 1 5 3 (value (codes "left")))
    (number_from 1 1000000 20000 (value (codes "budget")))
    (number_from 0 4294967295 42 (value (codes "seed")))
    (number_from 0 1 0 (value (codes "scratch")))
    (pool_of (value (codes "pool")))

-- what a command line asks for
pub data Request : Type 0 where
  rewrite : (table listing out image : Text) → ℕ → Request
  audit : (table : Text) → Request
  learn : (listing out : Text) (cost_text : Option Text) → Header → Request
  export : (table : Text) (entry : ℕ) (cnf lrat : Text) → Request
  trace : (listing label : Text) → ℕ → Request
  demo : (windows : ℕ) → Request
  upgrade : (table out : Text) → Request
  trim : (table out : Text) → Request
  tidy : (listing out : Text) → ℕ → Request
  generalise : (table : Text) (entry number low high : ℕ) (out : Text) → Request

-- the commands
pub data Form : Type 0 where
  rewrites : Form
  audits : Form
  learns : Form
  exports : Form
  traces : Form
  demos : Form
  upgrades : Form
  trims : Form
  tidies : Form
  generalises : Form

abbrev pub name_of : Form → Text
name_of rewrites = codes "rewrite"
name_of audits = codes "audit"
name_of learns = codes "learn"
name_of exports = codes "export"
name_of traces = codes "trace"
name_of demos = codes "demo"
name_of upgrades = codes "upgrade"
name_of trims = codes "trim"
name_of tidies = codes "tidy"
name_of generalises = codes "generalise"

abbrev pub options_of : Form → List Text
options_of rewrites = codes "base" ∷ []
options_of learns = codes "regs" ∷ codes "left" ∷ codes "budget" ∷ codes "seed" ∷ codes "pool" ∷ codes "scratch" ∷ codes "costs" ∷ []
options_of tidies = codes "base" ∷ []
options_of form = []

-- what a command asks for, by its positional words and the values of its options
abbrev pub request_by : Form → List Text → (Text → Option Text) → Option Request
request_by rewrites (table ∷ listing ∷ out ∷ image ∷ []) value = option_map (λ base. rewrite table listing out image base) (base_of (value (codes "base")))
request_by audits (table ∷ []) value = Some (audit table)
request_by learns (listing ∷ out ∷ []) value = option_map (λ settings. learn listing out (value (codes "costs")) settings) (settings_of value)
request_by exports (table ∷ entry ∷ cnf ∷ lrat ∷ []) value = option_map (λ number. export table number cnf lrat) (numeral entry)
request_by traces (listing ∷ label ∷ count ∷ []) value = option_map (λ steps. trace listing label steps) (steps_of count)
request_by demos (count ∷ []) value = option_map (λ windows. demo windows) (windows_of count)
request_by upgrades (table ∷ out ∷ []) value = Some (upgrade table out)
request_by trims (table ∷ out ∷ []) value = Some (trim table out)
request_by tidies (listing ∷ out ∷ []) value = option_map (λ base. tidy listing out base) (base_of (value (codes "base")))
request_by generalises (table ∷ entry ∷ number ∷ low ∷ high ∷ out ∷ []) value = option_and_then (λ e. option_and_then (λ n. option_and_then (λ l.
    option_map (λ h. generalise table e n l h out) (byte_of high)) (byte_of low)) (byte_of number)) (numeral entry)
request_by form words value = None

-- the words are a command line that asks for this
pub record AskFor (ws : List Text) (r : Request) : Type 0 where
  pub form : Form
  pub words : List Text
  pub given : List Given
  pub command : IsCommand (name_of form) (options_of form) ws words given
  pub asks : request_by form words (λ n. value_of n given) ≡ Some r

-- words ask for at most one thing
abbrev pub AskOnce : Type 0
AskOnce = (ws : List Text) → All IsUtf8 ws → (r s : Request) → AskFor ws r → AskFor ws s → r ≡ s
