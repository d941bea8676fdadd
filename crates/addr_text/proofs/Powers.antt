-- Powers of 256 and 65536 that stay within their words, case by case.
use Rattle.std.proofs.Common.{ℕ, ◌+◌, ◌-◌, ◌*◌, ◌^◌, ◌<◌, ◌≤◌, ◌≢◌, refl, zero, suc, arith}

-- n fields and zeros behind them are within eight fields
pub fields_fit : (n b : ℕ) → n ≤ 7 → b < 65536 ^ n → b * 65536 ^ (8 - n) + 65536 ^ (8 - n) ≤ 65536 ^ 8
fields_fit zero b h k = omega arith
fields_fit (suc zero) b h k = omega arith
fields_fit (suc (suc zero)) b h k = omega arith
fields_fit (suc (suc (suc zero))) b h k = omega arith
fields_fit (suc (suc (suc (suc zero)))) b h k = omega arith
fields_fit (suc (suc (suc (suc (suc zero))))) b h k = omega arith
fields_fit (suc (suc (suc (suc (suc (suc zero)))))) b h k = omega arith
fields_fit (suc (suc (suc (suc (suc (suc (suc zero))))))) b h k = omega arith
fields_fit (suc (suc (suc (suc (suc (suc (suc (suc n)))))))) b h k = absurd (omega arith)

-- a field before n fields makes n + 1 fields
pub field_fits : (n v b : ℕ) → n ≤ 7 → v < 65536 → b < 65536 ^ n → (v * 65536 ^ n + b < 65536 ^ (n + 1)) × (65536 ^ (n + 1) ≤ 2 ^ 128)
field_fits zero v b h i k = (omega arith, omega arith)
field_fits (suc zero) v b h i k = (omega arith, omega arith)
field_fits (suc (suc zero)) v b h i k = (omega arith, omega arith)
field_fits (suc (suc (suc zero))) v b h i k = (omega arith, omega arith)
field_fits (suc (suc (suc (suc zero)))) v b h i k = (omega arith, omega arith)
field_fits (suc (suc (suc (suc (suc zero))))) v b h i k = (omega arith, omega arith)
field_fits (suc (suc (suc (suc (suc (suc zero)))))) v b h i k = (omega arith, omega arith)
field_fits (suc (suc (suc (suc (suc (suc (suc zero))))))) v b h i k = (omega arith, omega arith)
field_fits (suc (suc (suc (suc (suc (suc (suc (suc n)))))))) v b h i k = absurd (omega arith)

-- an octet before n octets makes n + 1 octets
pub octet_fits : (n v b : ℕ) → n ≤ 3 → v < 256 → b < 256 ^ n → (v * 256 ^ n + b < 256 ^ (n + 1)) × (256 ^ (n + 1) ≤ 2 ^ 32)
octet_fits zero v b h i k = (omega arith, omega arith)
octet_fits (suc zero) v b h i k = (omega arith, omega arith)
octet_fits (suc (suc zero)) v b h i k = (omega arith, omega arith)
octet_fits (suc (suc (suc zero))) v b h i k = (omega arith, omega arith)
octet_fits (suc (suc (suc (suc n)))) v b h i k = absurd (omega arith)

-- what follows at least one field
pub fields_behind : (n : ℕ) → n ≤ 7 → n ≢ 0 → 65536 ^ (8 - n) < 2 ^ 128
fields_behind zero h k = absurd (k refl)
fields_behind (suc zero) h k = omega arith
fields_behind (suc (suc zero)) h k = omega arith
fields_behind (suc (suc (suc zero))) h k = omega arith
fields_behind (suc (suc (suc (suc zero)))) h k = omega arith
fields_behind (suc (suc (suc (suc (suc zero))))) h k = omega arith
fields_behind (suc (suc (suc (suc (suc (suc zero)))))) h k = omega arith
fields_behind (suc (suc (suc (suc (suc (suc (suc zero))))))) h k = omega arith
fields_behind (suc (suc (suc (suc (suc (suc (suc (suc n)))))))) h k = absurd (omega arith)
