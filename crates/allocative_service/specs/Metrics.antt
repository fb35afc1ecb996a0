-- The text that says to Prometheus how many bytes a book has.
use Rattle.std.specs.Prelude.{◌≢◌, ℕ, ◌-◌, ◌^◌, ◌==◌, ◌||◌, ◌&&◌, Bool, cond, false, not, List, [], ◌∷◌, ◌++◌, Option}
use Rattle.std.specs.Prelude.{None, Some, String, chars, codes, decimal, encode_utf8_all, flat_map, option_map}
use Rattle.std.specs.Prelude.{slice_get, string_bytes, unwrap_or}
use Rattle.std.specs.Char.{is_ascii_alphanumeric, is_ascii_digit}
use Rattle.std.specs.Global.{Global}
use Rattle.std.specs.List.{list_all}
use Rattle.allocative_service.specs.Book.{AccountData, BookData, all_billed, billed_sum}
use Rattle.allocative_service.specs.declared.metrics.Gauge.{Gauge}
use Rattle.allocative_service.specs.declared.metrics.Gauge.TheVariants.{Bytes, Limit, Excess, Peak}

-- ---- names
-- Whether a byte may be in the name of a metric: it is a letter, a digit, `_` or `:`.
abbrev pub is_name_byte : ℕ → Bool
is_name_byte b = is_ascii_alphanumeric b || (b == 95) || (b == 58)

-- Whether a text is the name of a metric: it has only such bytes, and at least one, and begins with no digit.
abbrev pub is_metric_name : List ℕ → Bool
is_metric_name t =
    unwrap_or (option_map (λ b. not (is_ascii_digit b)) (slice_get t 0)) false && list_all is_name_byte t

-- The name of the metric with this word under a prefix.
abbrev pub metric : List ℕ → List ℕ → List ℕ
metric prefix word = prefix ++ 95 ∷ word

-- ---- labels
-- The characters that stand for one in the value of a label: `\\` for a backslash, `\"` for a double quote, `\n` for a
-- line feed, and otherwise the character itself.
abbrev pub escaped_char : ℕ → List ℕ
escaped_char c = cond (c == 92) (codes "\\\\") (cond (c == 34) (codes "\\\"") (cond (c == 10) (codes "\\n") (c ∷ [])))

-- The characters that stand for a text.
abbrev pub escaped : List ℕ → List ℕ
escaped cs = flat_map escaped_char cs

-- A text as the value of a label.
abbrev pub label_value : List ℕ → List ℕ
label_value t = encode_utf8_all (escaped (chars t))

-- The characters m of a label's value read as the text t: a backslash and the next character as one, and each other
-- character as itself, if it is no double quote, which ends the value, and no line feed, which ends the line.
pub data ReadsAs : List ℕ → List ℕ → Type 0 where
  end : ReadsAs [] []
  backslash : (m t : List ℕ) → ReadsAs m t → ReadsAs (92 ∷ 92 ∷ m) (92 ∷ t)
  quote : (m t : List ℕ) → ReadsAs m t → ReadsAs (92 ∷ 34 ∷ m) (34 ∷ t)
  feed : (m t : List ℕ) → ReadsAs m t → ReadsAs (92 ∷ 110 ∷ m) (10 ∷ t)
  itself : (c : ℕ) (m t : List ℕ) → c ≢ 92 → c ≢ 34 → c ≢ 10 → ReadsAs m t → ReadsAs (c ∷ m) (c ∷ t)

-- The characters that stand for a text read as the text.
abbrev pub LabelLaw : Type 0
LabelLaw = (cs : List ℕ) → ReadsAs (escaped cs) cs

-- ---- lines
-- A limit in bytes, or None if it is the greatest word, which is no limit.
abbrev pub limit_in : ℕ → Option ℕ
limit_in limit = cond (limit == 2 ^ 64 - 1) None (Some limit)

-- Bytes, or infinity if there are none, and the end of the line.
abbrev pub value_text : Option ℕ → List ℕ
value_text None = codes "+Inf\n"
value_text (Some bytes) = decimal bytes ++ codes "\n"

-- The two lines that say what a gauge is.
abbrev pub head : List ℕ → List ℕ → List ℕ
head name help =
    codes "# HELP " ++ (name ++ (codes " " ++ (help ++ (codes "\n# TYPE " ++ (name ++ codes " gauge\n")))))

-- A gauge of all accounts together.
unfoldable pub whole_text : List ℕ → List ℕ → List ℕ → Option ℕ → List ℕ
whole_text prefix word help bytes =
    head (metric prefix word) help ++ metric prefix word ++ codes " " ++ value_text bytes

-- The line of a tenant: the name of the gauge, the tenant as a label, and its bytes.
abbrev pub tenant_line : List ℕ → List ℕ → Option ℕ → List ℕ
tenant_line name tenant bytes = name ++ codes "{tenant=\"" ++ label_value tenant ++ codes "\"} " ++ value_text bytes

-- What follows the prefix in the name of a gauge of each account.
abbrev pub word_of : Gauge → List ℕ
word_of Bytes = codes "tenant_bytes"
word_of Limit = codes "tenant_limit_bytes"
word_of Excess = codes "tenant_excess_bytes"
word_of Peak = codes "tenant_peak_bytes"

-- The sentence that says what a gauge is.
abbrev pub help_of : Gauge → List ℕ
help_of Bytes = codes "The bytes of all entries of a tenant."
help_of Limit = codes "The most bytes that a tenant may have, unless it grows."
help_of Excess = codes "By how many bytes a tenant exceeds its limit."
help_of Peak = codes "The most bytes that a tenant ever had."

module _ {K E : Type 0} (billed : E → ℕ) where
  -- What a gauge says of an account.
  abbrev pub value_of : Gauge → AccountData K E → Option ℕ
  value_of Bytes h = Some (billed_sum billed h.entries)
  value_of Limit h = limit_in h.limit
  value_of Excess h = Some (billed_sum billed h.entries - h.limit)
  value_of Peak h = Some h.peak

  -- The line of an account, under the name of its tenant.
  abbrev pub account_line : List ℕ → Gauge → String Global × AccountData K E → List ℕ
  account_line prefix gauge e =
      tenant_line (metric prefix (word_of gauge)) (string_bytes e.0) (value_of gauge e.1)

  -- A gauge of each of these accounts, in their order.
  unfoldable pub gauge_text : List ℕ → List (String Global × AccountData K E) → Gauge → List ℕ
  gauge_text prefix accounts gauge =
      head (metric prefix (word_of gauge)) (help_of gauge) ++ flat_map (account_line prefix gauge) accounts

  -- The text of a book: the gauges of all accounts together, and those of each account.
  abbrev pub metrics_text : List ℕ → BookData K E → List ℕ
  metrics_text prefix b =
      whole_text prefix (codes "bytes") (codes "The bytes of all tenants.") (Some (all_billed billed b.accounts))
      ++ whole_text prefix (codes "limit_bytes") (codes "The most bytes that all tenants may have, unless they grow.")
      (limit_in b.limit)
      ++ gauge_text prefix b.accounts Bytes ++ gauge_text prefix b.accounts Limit
      ++ gauge_text prefix b.accounts Excess ++ gauge_text prefix b.accounts Peak
