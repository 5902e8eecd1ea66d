-- The members of an object that is read.
use Rattle.serde_json.specs.Data.{Members as DataMembers}
use Rattle.serde_json.specs.View.{members_view}
use Rattle.mari_feed.specs.declared.members.Members.{Members}

-- those that are left
abbrev pub members_left : Members → DataMembers
members_left m = members_view m.rest
