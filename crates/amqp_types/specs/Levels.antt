-- How closely an encoding keeps to the one that is written.
use Rattle.amqp_types.specs.declared.profile.Profile.{Profile}
use Rattle.amqp_types.specs.declared.profile.Profile.TheVariants as profiles

-- plain: each encoding of the grammar in docs/FORMAT.md, which is what peers send.
-- tidy: reserved fields, unused bits, a header's weight and a heartbeat's payload are in the
-- canonical encoding.
-- strict: the one encoding that is written. A true boolean is 1, and a table has each key once, in
-- ascending order.
pub data Level : Type 0 where
  plain : Level
  tidy : Level
  strict : Level

-- the level of what a reader accepts
abbrev pub level_of : Profile → Level
level_of profiles.Plain = plain
level_of profiles.Tidy = tidy
