pub mod OwnBuilderFields
pub mod OwnPlanFields
pub mod OwnSiteFields
